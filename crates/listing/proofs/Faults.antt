-- No field is at fault exactly if the bytes hold them all and each is in its range. Assumes nothing.
use Prim.Native.Nat.{ℕ, ◌+◌, ◌-◌, ◌≤◌}
use mathlib.Core.Bool.{Bool, true, false, cond, ◌&&◌}
use mathlib.Core.List.{List, [], ◌∷◌}
use mathlib.Core.Path.{◌≡◌, refl, sym, ◌∙◌}
use native.Mathlib.Nat.{add_assoc, add-zero}
use native.Mathlib.Omega.{arith}
use borrow.Author.Tests.{le-ltb, lt-ltb, le-leb, lt-leb}
use lib.Dec.{leb, ltb}
use lib.ListN.{length}
use Rattle.arith.proofs.Tests.{true_or, le_or_lt, and_false}
use Rattle.rules.specs.declared.field.Field.{Field}
use Rattle.listing_words.specs.declared.field.Verdict.{Verdict}
use Rattle.listing_words.specs.declared.field.Verdict.TheVariants.{OutOfRange}
use Rattle.rules.specs.Fields.{width_of, widths, number_at}
use Rattle.listing_words.specs.Fields.{quantity_of, range_of, within, day_verdict, verdict_of, passes, Fault, is_none, fault_in}

-- Whatever the bytes hold.
unfoldable pub in_ranges : ℕ → List ℕ → ℕ → List Field → Bool
in_ranges n s place [] = true
in_ranges n s place (f ∷ fs) =
    let v = number_at s place (width_of f) in
    within (range_of n s place f) v && (passes (day_verdict s (quantity_of f) v) && in_ranges n s (place + width_of f) fs)

verdict_passes : (w : Bool) (d : Verdict) (a b : Fault) → is_none b ≡ false → is_none (cond (passes (cond w d OutOfRange)) a b) ≡ w && (passes d && is_none a)
verdict_passes false d a b g = g
verdict_passes true d a b g = true_or (passes d) (λ h. rw h refl) (λ h. rw h g)

-- The bytes' length is tested first.
length_first : (w d l r : Bool) → w && (d && (l && r)) ≡ l && (w && (d && r))
length_first true true l r = refl
length_first true false l r = sym (and_false l)
length_first false d l r = sym (and_false l)

pub none_is : (n : ℕ) (s : List ℕ) (place : ℕ) (fs : List Field) → place ≤ length s
    → is_none (fault_in n s place fs) ≡ leb (place + widths fs) (length s) && in_ranges n s place fs
unfolding fault_in in_ranges widths verdict_of
none_is n s place [] h = rw (add-zero place, le-leb place (length s) h)
none_is n s place (f ∷ fs) h =
    let v = number_at s place (width_of f) in
    le_or_lt (place + width_of f) (length s)
    (λ k. rw (le-ltb (length s) (place + width_of f) k)
    (verdict_passes (within (range_of n s place f) v) (day_verdict s (quantity_of f) v) (fault_in n s (place + width_of f) fs) _ refl
    ∙ rw (none_is n s (place + width_of f) fs k, add_assoc place (width_of f) (widths fs))
    (length_first (within (range_of n s place f) v) (passes (day_verdict s (quantity_of f) v)) (leb (place + (width_of f + widths fs)) (length s)) (in_ranges n s (place + width_of f) fs))))
    (λ k. rw (lt-ltb (length s) (place + width_of f) k, lt-leb (place + (width_of f + widths fs)) (length s) (omega arith)) refl)

-- ---- tests of ranges
pub from_zero : (v : ℕ) → leb 0 v ≡ true
from_zero v = le-leb 0 v (omega arith)

pub last_before : (v after : ℕ) → 1 ≤ after → leb v (after - 1) ≡ ltb v after
last_before v after some =
    le_or_lt v (after - 1) (λ h. rw (le-leb v (after - 1) h, lt-ltb v after (omega arith)) refl) (λ h. rw (lt-leb v (after - 1) h, le-ltb v after (omega arith)) refl)
