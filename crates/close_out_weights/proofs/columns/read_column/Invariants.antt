use Prim.Native.Nat.{◌+◌, ◌-◌, ◌≤◌}
use mathlib.Core.Path.{◌≡◌}
use mathlib.Core.List.{◌++◌, map}
use lib.Dec.{eqb}
use lib.IntN.{pos}
use lib.ListN.{length, get_or, take}
use Rattle.arith.specs.Lists.{from}
use Rattle.rules.specs.Ledger.{marks_from, row_place}
use Rattle.close_out_weights.specs.Columns.{lots_in}
use Rattle.close_out_weights.proofs.columns.read_column.Given as goal

abbrev pub invariant-loop-i : goal.invariant-loop-i
invariant-loop-i l = (l.i ≤ length l.initial.column) × (length l.column ≡ length l.initial.column)
    × (take l.i l.column ++ map (λ m. lots_in l.part (eqb (get_or l.head (marks_from + m) 0) 1) (get_or l.lots (row_place l.contract m) (pos 0))) (from l.i (length l.initial.column - l.i))
    ≡ map (λ m. lots_in l.part (eqb (get_or l.head (marks_from + m) 0) 1) (get_or l.lots (row_place l.contract m) (pos 0))) (from 0 (length l.initial.column)))
