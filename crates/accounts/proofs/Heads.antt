-- The header's places of the head: first year, members and holidays stand through every record.
use mathlib.Core.Path.{◌≡◌, refl, sym, ◌∙◌}
use mathlib.Core.List.{List, ◌++◌}
use Prim.Native.Nat.{ℕ, ◌+◌, ◌≤◌, ◌<◌}
use native.Mathlib.Omega.{arith}
use lib.ListN.{length, get_or, set, take, drop, length-set, length-append, length-take, length-drop, get_or-append}
use lib.Seq.{get_or-set_other, get_or-take, get_or-drop, ext_get_or}
use Rattle.rules.specs.Ranges.{most_holidays}
use Rattle.rules.specs.Ledger.{head_length, day_place, time_place, holidays_from, limits_from}
use Rattle.arith.specs.Lists.{over}

-- the header's places: first year, members, holiday count and, where f is the place of the time, the day; the holidays
pub data HeaderPlace (f i : ℕ) : Type 0 where
  field : i < f → HeaderPlace f i
  holiday : holidays_from ≤ i → i < limits_from → HeaderPlace f i

-- the other places
pub data OtherPlace (f i : ℕ) : Type 0 where
  changing : f ≤ i → i < holidays_from → OtherPlace f i
  of_member : limits_from ≤ i → OtherPlace f i

apart : (f i j : ℕ) → f ≤ time_place → HeaderPlace f i → OtherPlace f j → i ≡ j → ⊥
apart f i j q (field a) (changing b c) e = omega arith
apart f i j q (field a) (of_member b) e = omega arith
apart f i j q (holiday a d) (changing b c) e = omega arith
apart f i j q (holiday a d) (of_member b) e = omega arith

-- l' has l's header
pub record SameHeader (f : ℕ) (l l' : List ℕ) : Type 0 where
  pub longer : length l ≤ length l'
  pub places : (i : ℕ) → HeaderPlace f i → get_or l' i 0 ≡ get_or l i 0

pub same_header : (f : ℕ) (l : List ℕ) → SameHeader f l l
same_header f l = record { longer = omega arith; places = λ i p. refl }

pub then_same : {f : ℕ} {l l' l'' : List ℕ} → SameHeader f l l' → SameHeader f l' l'' → SameHeader f l l''
then_same a b = record { longer = omega (arith, a.longer, b.longer); places = λ i p. b.places i p ∙ a.places i p }

pub set_other : (f : ℕ) (l : List ℕ) (j v : ℕ) → f ≤ time_place → OtherPlace f j → SameHeader f l (set l j v)
set_other f l j v q o = record { longer = omega (arith, length-set l j v); places = λ i p. get_or-set_other l j i v 0 (apart f i j q p o) }

-- a day may change
front : (i : ℕ) → HeaderPlace day_place i → HeaderPlace time_place i
front i (field a) = field (omega arith)
front i (holiday a b) = holiday a b

pub but_the_day : {l l' : List ℕ} → SameHeader time_place l l' → SameHeader day_place l l'
but_the_day a = record { longer = a.longer; places = λ i p. a.places i (front i p) }

below_limits : (f i : ℕ) → f ≤ time_place → HeaderPlace f i → i < limits_from
below_limits f i q (field a) = omega arith
below_limits f i q (holiday a b) = b

pub over_other : (f : ℕ) (l xs : List ℕ) (a : ℕ) → f ≤ time_place → limits_from ≤ a → a ≤ length l → SameHeader f l (over a xs l)
unfolding over
over_other f l xs a q b s = record {
  longer = simp (length-append, length-take, length-drop) (omega arith);
  places = λ i p. let u = below_limits f i q p in
      get_or-append (take a l) (xs ++ drop (a + length xs) l) 0 i (simp length-take (omega arith)) ∙ get_or-take a l i 0 (omega arith);
}

-- where the header's places are the same the holidays are
pub same_holidays : (f : ℕ) (l l' : List ℕ) (n : ℕ) → SameHeader f l l' → head_length ≤ length l → n ≤ most_holidays → take n (drop holidays_from l') ≡ take n (drop holidays_from l)
same_holidays f l l' n a s b =
    ext_get_or 0 (take n (drop holidays_from l')) (take n (drop holidays_from l)) (simp (length-take, length-drop) (omega (arith, a.longer)))
    (λ i h. let m : i < n = omega (arith, simp (length-take, length-drop) at h) in
    get_or-take n (drop holidays_from l') i 0 m ∙ get_or-drop holidays_from l' i 0 ∙ a.places (holidays_from + i) (holiday (omega arith) (omega arith)) ∙ sym (get_or-drop holidays_from l i 0) ∙ sym (get_or-take n (drop holidays_from l) i 0 m))
