-- The bytes hold a header of which no field is at fault. Assumes nothing.
use Prim.Native.Nat.{ℕ, zero, suc, ◌+◌, ◌*◌, ◌≤◌}
use mathlib.Core.Bool.{true}
use mathlib.Core.List.{List, [], ◌∷◌, ◌++◌}
use mathlib.Core.Path.{◌≡◌, refl, sym, ◌∙◌}
use native.Mathlib.Nat.{zero-add}
use native.Mathlib.Omega.{arith}
use borrow.Author.Tests.{leb-true}
use lib.Dec.{leb}
use lib.ListN.{length, get_or, replicate}
use Rattle.arith.proofs.Tests.{and_left}
use Rattle.rules.specs.declared.field.Field.{Field}
use Rattle.rules.specs.declared.field.Field.TheVariants.{Holiday, Limit}
use Rattle.listing_words.specs.declared.field.Shape.TheVariants.{Header}
use Rattle.listing_words.specs.Fields.{fixed_fields, fields_in, header_shape, is_none, header_fault}
use Rattle.rules.specs.Fields.{widths}
use Rattle.listing.proofs.Faults.{in_ranges, none_is}

widths_append : (xs ys : List Field) → widths (xs ++ ys) ≡ widths xs + widths ys
unfolding widths
widths_append [] ys = sym (zero-add (widths ys))
widths_append (f ∷ xs) ys = rw (widths_append xs ys) (omega arith)

pub widths_holidays : (n : ℕ) → widths (replicate n Holiday) ≡ 2 * n
unfolding widths
widths_holidays zero = refl
widths_holidays (suc n) = rw (widths_holidays n) (omega arith)

widths_limits : (n : ℕ) → widths (replicate n Limit) ≡ 4 * n
unfolding widths
widths_limits zero = refl
widths_limits (suc n) = rw (widths_limits n) (omega arith)

pub header_widths : (holidays members : ℕ) → widths (fields_in (Header holidays members)) ≡ 11 + (2 * holidays + 4 * members)
unfolding fields_in widths
header_widths holidays members =
    widths_append fixed_fields (replicate holidays Holiday ++ replicate members Limit)
    ∙ rw (widths_append (replicate holidays Holiday) (replicate members Limit), widths_holidays holidays, widths_limits members) refl

pub header_fits : (s : List ℕ) → is_none (header_fault s) ≡ true → 11 + (2 * get_or s 10 0 + 4 * get_or s 9 0) ≤ length s
header_fits s e =
    let fields = fields_in (header_shape s) in
    let held = leb-true (0 + widths fields) (length s) (and_left (leb (0 + widths fields) (length s)) (in_ranges 0 s 0 fields) (sym (none_is 0 s 0 fields (omega arith)) ∙ e)) in
    omega (arith, held, header_widths (get_or s 10 0) (get_or s 9 0))
