-- One writer after another. Assumes nothing.
use Prim.Native.Nat.{ℕ, ◌+◌, ◌≤◌}
use mathlib.Core.List.{List, [], ◌++◌}
use mathlib.Core.Path.{sym, ◌∙◌}
use native.Mathlib.Nat.{add_assoc, add-zero}
use native.Mathlib.Omega.{arith}
use lib.ListN.{length, length-append, take-append-drop}
use Rattle.arith.specs.Lists.{over}
use Rattle.arith.proofs.Beside.{over_next}
use Rattle.text.specs.Wrote.{Wrote}

pub then : {a b c : ℕ} {xs ys l m k : List ℕ} → Wrote a xs l m b → Wrote b ys m k c → a + length xs ≤ length l → Wrote a (xs ++ ys) l k c
then {a} {b} {c} {xs} {ys} {l} {m} {k} p q h =
    record {
      after = q.after ∙ rw (p.after, length-append xs ys) (add_assoc a (length xs) (length ys));
      bytes = over_next a b xs ys l m k p.bytes q.bytes p.after h;
    }

pub wrote_none : (a : ℕ) (l : List ℕ) → Wrote a [] l l a
unfolding over
wrote_none a l = record { after = omega arith; bytes = rw (add-zero a) (sym (take-append-drop a l)) }
