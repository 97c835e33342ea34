-- A record at the front ends where the bytes do at the latest. Assumes nothing.
use Prim.Native.Nat.{ℕ, ◌≤◌}
use mathlib.Core.List.{List}
use mathlib.Core.Path.{◌≡◌}
use native.Mathlib.Omega.{arith}
use borrow.Author.Tests.{eqb-false, leb-true}
use lib.Dec.{eqb, leb}
use lib.ListN.{length}
use Rattle.arith.proofs.Tests.{true_or}
use Rattle.rules.specs.declared.event.Front.{Front}
use Rattle.rules.specs.declared.event.Front.TheVariants.{Whole, Cut, UnknownKind}
use Rattle.rules.specs.Records.{front_length, front_of}

abbrev FrontFits : Front → ℕ → Type 0
FrontFits (Whole m) len = (1 ≤ m) × (m ≤ len)
FrontFits UnknownKind len = 1 ≤ len
FrontFits Cut len = Unit {0}

pub front_fits : (s : List ℕ) → FrontFits (front_of s) (length s)
unfolding front_of
front_fits s =
    true_or (eqb (length s) 0) (λ e. rw e tt)
    (λ e. let some : length s ≡ 0 → ⊥ = eqb-false (length s) 0 e in
    rw e
    (true_or (eqb (front_length s) 0) (λ g. rw g (omega arith))
    (λ g. let has : front_length s ≡ 0 → ⊥ = eqb-false (front_length s) 0 g in
    rw g (true_or (leb (front_length s) (length s)) (λ h. rw h (omega arith, leb-true (front_length s) (length s) h)) (λ h. rw h tt)))))
