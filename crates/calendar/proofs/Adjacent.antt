-- Numbers that rise, by each and the next, as the library tests a list. Assumes nothing.
use Prim.Native.Nat.{ℕ, zero, suc, ◌<◌}
use mathlib.Core.Path.{◌≡◌, sym, ◌∙◌}
use mathlib.Core.Bool.{Bool, true, false}
use mathlib.Core.List.{List, [], ◌∷◌}
use native.Mathlib.Omega.{arith}
use native.Mathlib.Numerals.{add-one}
use lib.Dec.{ltb}
use lib.ListN.{length, get_or}
use Rattle.std.specs.List.{IsAllAdjacentAnswer}
use Rattle.arith.proofs.Tests.{and_false}
use Rattle.rules.specs.Header.{rising}
use Rattle.rules.proofs.Rising.{rising_cons, rising_short}

all_rise : (l : List ℕ) → ((k : ℕ) → suc k < length l → ltb (get_or l k 0) (get_or l (suc k) 0) ≡ true) → rising l ≡ true
all_rise [] h = rising_short [] (omega arith)
all_rise (x ∷ []) h = rising_short (x ∷ []) (omega arith)
all_rise (x ∷ y ∷ l) h = rising_cons x y l ∙ rw (h 0 (omega arith), all_rise (y ∷ l) (λ k b. h (suc k) (omega arith)))

one_falls : (l : List ℕ) (k : ℕ) → suc k < length l → ltb (get_or l k 0) (get_or l (suc k) 0) ≡ false → rising l ≡ false
one_falls [] k b e = absurd (omega arith)
one_falls (x ∷ []) k b e = absurd (omega arith)
one_falls (x ∷ y ∷ l) zero b e = rising_cons x y l ∙ rw e
one_falls (x ∷ y ∷ l) (suc k) b e = rising_cons x y l ∙ rw (one_falls (y ∷ l) k (omega arith) e) (and_false (ltb x y))

pub rising_adjacent : (l : List ℕ) (r : Bool) → IsAllAdjacentAnswer (λ x y b. b ≡ ltb x y) l r → r ≡ rising l
rising_adjacent l true a = sym (all_rise l (λ k b. rw add-one at (sym (a k 0 (omega arith)))))
rising_adjacent l false a = sym (one_falls l a.0 (omega arith) (rw add-one at (sym (a.2 0))))
