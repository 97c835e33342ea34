-- The records of rules, Bytes, field by field, written out by hand from document 01's field list: the name of each with its number.
-- So two fields of one width that are exchanged in the description cannot hide, which bytes alone do not show.
use Rattle.std.specs.Prelude.{ℕ, ◌≡◌, refl, length}
use mathlib.Core.List.{List, [], ◌∷◌, map, flat_map, zip_with}
use Rattle.rules.specs.declared.field.Field.{Field}
use Rattle.rules.specs.declared.field.Field.TheVariants.{Kind, Time, Member, Contract, Side, OrderKind, Price, Lots, Order, Low, High, Legs, Ratio}
use Rattle.rules.specs.Bytes.{Example, examples}
use Rattle.rules.specs.Fields.{times_over, fields_of_kind}
use Rattle.rules.specs.Records.{kind_number, numbers_of}

abbrev pub named : Example → List (Field × ℕ)
named x = zip_with (λ f n. (f, n)) (Kind ∷ fields_of_kind (kind_number x.event) (length x.legs)) (numbers_of x.event x.legs)

pub examples_named : map named examples
    ≡ ((Kind, 1) ∷ (Time, 66051) ∷ (Member, 2) ∷ (Contract, 17) ∷ (Side, 1) ∷ (OrderKind, 2) ∷ (Price, 258000) ∷ (Lots, 100) ∷ [])
    ∷ ((Kind, 1) ∷ (Time, 256) ∷ (Member, 0) ∷ (Contract, 101) ∷ (Side, 0) ∷ (OrderKind, 1) ∷ (Price, 1000000) ∷ (Lots, 1) ∷ [])
    ∷ ((Kind, 1) ∷ (Time, 4660) ∷ (Member, 1) ∷ (Contract, 34) ∷ (Side, 0) ∷ (OrderKind, 0) ∷ (Price, 66051) ∷ (Lots, 7) ∷ [])
    ∷ ((Kind, 2) ∷ (Time, 86399) ∷ (Member, 2) ∷ (Order, 16909060) ∷ [])
    ∷ ((Kind, 3) ∷ (Contract, 5) ∷ (Low, 256) ∷ (High, 65536) ∷ [])
    ∷ ((Kind, 4) ∷ (Legs, 2) ∷ (Order, 1) ∷ (Lots, 2) ∷ (Price, 256) ∷ (Order, 65536) ∷ (Lots, 3) ∷ (Price, 65537) ∷ [])
    ∷ ((Kind, 5) ∷ (Member, 2) ∷ [])
    ∷ ((Kind, 6) ∷ (Contract, 34) ∷ (Ratio, 256) ∷ [])
    ∷ ((Kind, 7) ∷ (Time, 61200) ∷ [])
    ∷ []
unfolding fields_of_kind times_over numbers_of zip_with flat_map
examples_named = refl
