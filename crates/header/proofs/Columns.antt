-- Columns filled from the front: their first places are the list that they were filled with. Assumes nothing.
use Prim.Native.Nat.{ℕ, ◌-◌, ◌≤◌}
use mathlib.Core.Path.{◌≡◌}
use mathlib.Core.List.{List}
use native.Mathlib.Omega.{arith}
use lib.ListN.{length, take, replicate, length-append}
use lib.Seq.{take-append_seam}
use Rattle.arith.specs.Columns.{padded}

pub column : (n : ℕ) (l : List ℕ) → take (length l) (padded n l) ≡ l
unfolding padded
column n l = take-append_seam l (replicate (n - length l) 0)

pub room : (n : ℕ) (l : List ℕ) → length l ≤ n → length l ≤ length (padded n l)
unfolding padded
room n l h = rw (length-append l (replicate (n - length l) 0)) (omega arith)
