-- Document 01, "Records": the fields of each kind of record, in the order of their bytes, and the width of each, with those of a header
-- for the listing. The lengths of records, reading and writing (Records) and the listing follow from here.
use Rattle.std.specs.Prelude.{ℕ, zero, suc, ◌+◌, Bool, cond, List, [], ◌∷◌, ◌++◌, eqb, get_or}
use Rattle.rules.specs.declared.field.Field.{Field}
use Rattle.rules.specs.declared.field.Field.TheVariants.{LetterV, LetterJ, LetterR, Version, FirstYear, StartDay, Members, HolidayCount, Holiday, Limit}
use Rattle.rules.specs.declared.field.Field.TheVariants.{Kind, Time, Member, Contract, Side, OrderKind, Price, Lots, Order, Low, High, Legs, Ratio}
use Rattle.rules.specs.Header.{u16_at, u32_at, u16_bytes, u32_bytes}

-- ---- kinds
-- A record's first byte is the number of its kind.
abbrev pub submit_kind : ℕ
submit_kind = 1

abbrev pub cancel_kind : ℕ
cancel_kind = 2

abbrev pub day_limits_kind : ℕ
day_limits_kind = 3

abbrev pub proposal_kind : ℕ
proposal_kind = 4

abbrev pub default_kind : ℕ
default_kind = 5

abbrev pub close_out_kind : ℕ
close_out_kind = 6

abbrev pub close_of_day_kind : ℕ
close_of_day_kind = 7

-- Only a proposal has legs.
abbrev pub has_legs : ℕ → Bool
has_legs kind = eqb kind proposal_kind

-- ---- widths
-- How many bytes a field takes: 1 is the paper's u8, 2 its u16, 4 its u32.
abbrev pub width_of : Field → ℕ
width_of LetterV = 1
width_of LetterJ = 1
width_of LetterR = 1
width_of Version = 2
width_of FirstYear = 2
width_of StartDay = 2
width_of Members = 1
width_of HolidayCount = 1
width_of Holiday = 2
width_of Limit = 4
width_of Kind = 1
width_of Time = 4
width_of Member = 1
width_of Contract = 1
width_of Side = 1
width_of OrderKind = 1
width_of Price = 4
width_of Lots = 2
width_of Order = 4
width_of Low = 4
width_of High = 4
width_of Legs = 1
width_of Ratio = 2

unfoldable pub widths : List Field → ℕ
widths [] = 0
widths (f ∷ fs) = width_of f + widths fs

-- ---- fields
abbrev pub submit_fields : List Field
submit_fields = Time ∷ Member ∷ Contract ∷ Side ∷ OrderKind ∷ Price ∷ Lots ∷ []

abbrev pub cancel_fields : List Field
cancel_fields = Time ∷ Member ∷ Order ∷ []

abbrev pub day_limits_fields : List Field
day_limits_fields = Contract ∷ Low ∷ High ∷ []

abbrev pub proposal_fields : List Field
proposal_fields = Legs ∷ []

-- Of each leg, one leg after the other behind a proposal's own.
abbrev pub leg_fields : List Field
leg_fields = Order ∷ Lots ∷ Price ∷ []

abbrev pub default_fields : List Field
default_fields = Member ∷ []

abbrev pub close_out_fields : List Field
close_out_fields = Contract ∷ Ratio ∷ []

abbrev pub close_of_day_fields : List Field
close_of_day_fields = Time ∷ []

-- After the kind, without legs. Every kind has a field: there is none where no kind has that number.
unfoldable pub kind_fields : ℕ → List Field
kind_fields kind =
    cond (eqb kind submit_kind) submit_fields
    (cond (eqb kind cancel_kind) cancel_fields
    (cond (eqb kind day_limits_kind) day_limits_fields
    (cond (eqb kind proposal_kind) proposal_fields
    (cond (eqb kind default_kind) default_fields
    (cond (eqb kind close_out_kind) close_out_fields
    (cond (eqb kind close_of_day_kind) close_of_day_fields []))))))

-- Fields so many times over.
unfoldable pub times_over : ℕ → List Field → List Field
times_over zero fs = []
times_over (suc n) fs = fs ++ times_over n fs

-- After the kind, with those of so many legs.
unfoldable pub fields_of_kind : ℕ → ℕ → List Field
unfolding kind_fields
fields_of_kind kind legs = kind_fields kind ++ cond (has_legs kind) (times_over legs leg_fields) []

-- ---- the number of a field
-- Read at a place, by its width; and written.
unfoldable pub number_at : List ℕ → ℕ → ℕ → ℕ
number_at s place width = cond (eqb width 1) (get_or s place 0) (cond (eqb width 2) (u16_at s place) (u32_at s place))

unfoldable pub number_bytes : ℕ → ℕ → List ℕ
number_bytes width n = cond (eqb width 1) (n ∷ []) (cond (eqb width 2) (u16_bytes n) (u32_bytes n))

-- The numbers of fields that stand one after the other from a place on, and their bytes.
unfoldable pub numbers_at : List ℕ → ℕ → List Field → List ℕ
unfolding number_at
numbers_at s place [] = []
numbers_at s place (f ∷ fs) = number_at s place (width_of f) ∷ numbers_at s (place + width_of f) fs

unfoldable pub bytes_by : List Field → List ℕ → List ℕ
unfolding number_bytes
bytes_by [] ns = []
bytes_by (f ∷ fs) [] = []
bytes_by (f ∷ fs) (n ∷ ns) = number_bytes (width_of f) n ++ bytes_by fs ns
