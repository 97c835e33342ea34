use native.Mathlib.Omega.{arith}
use mathlib.Core.Path.{◌≡◌}
use Prim.Native.Nat.{◌+◌, ◌-◌}
use lib.ListN.{get_or}
use Rattle.rules.specs.Ledger.{is_open}
use Rattle.tables.proofs.head.is_contract_open.Goals as goal

pub returns : goal.returns
unfolding is_open
returns c = let h = c.args.head.now in let cut : 8 + get_or h 2 0 - 8 ≡ get_or h 2 0 = omega arith in λ t. rw cut at c.is_open.ensures
