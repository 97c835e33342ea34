use Prim.Native.Nat.{ℕ, ◌+◌, ◌*◌, ◌≤◌}
use mathlib.Core.Path.{◌≡◌, ap, ◌∙◌}
use native.Mathlib.Omega.{arith}
use native.Mathlib.Nat.{mul-le-mul}
use lib.IntN.{pos, nat_abs}
use lib.ListN.{length, get_or, length-set}
use Rattle.arith.proofs.Signed.{back}
use Rattle.arith.proofs.Columns.{mapped_next, mapped_end, written_next, written_end}
use Rattle.rules.specs.Ledger.{row_place}
use Rattle.rules.specs.Ranges.{most_lots_run}
use Rattle.dealing.specs.Levels.{most_days}
use Rattle.close_out_weights.proofs.Still.{still_at, still_after}
use Rattle.close_out_weights.proofs.weights.add_contract.Goals as goal

pub overflow_mul-sum : goal.overflow_mul-sum
overflow_mul-sum c =
    let net = get_or c.args.lots.now (row_place c.args.contract c.loop-i.i) (pos 0) in
    let e : c.unsigned_abs.result ≡ nat_abs net = c.unsigned_abs.ensures.value ∙ ap nat_abs (back net (omega (arith, c.requires.contract_lt_contract_count.2.within c.args.contract c.loop-i.i c.requires.contract_lt_contract_count.0 (omega arith)))) in
    omega (arith, mul-le-mul c.requires.contract_lt_contract_count.1 (rw (← e) at (c.requires.contract_lt_contract_count.2.within c.args.contract c.loop-i.i c.requires.contract_lt_contract_count.0 (omega arith))))

pub overflow_add-sum : goal.overflow_add-sum
overflow_add-sum c =
    let net = get_or c.args.lots.now (row_place c.args.contract c.loop-i.i) (pos 0) in
    let e : c.unsigned_abs.result ≡ nat_abs net = c.unsigned_abs.ensures.value ∙ ap nat_abs (back net (omega (arith, c.requires.contract_lt_contract_count.2.within c.args.contract c.loop-i.i c.requires.contract_lt_contract_count.0 (omega arith)))) in
    let sum : get_or c.loop-i.sums c.loop-i.i 0 ≤ c.args.contract * (most_days * most_lots_run) = rw (still_at c.loop-i.sums c.args.sums.now c.loop-i.i c.loop-i.invariant.2) (c.requires.by_index c.loop-i.i) in
    omega (arith, mul-le-mul c.requires.contract_lt_contract_count.1 (rw (← e) at (c.requires.contract_lt_contract_count.2.within c.args.contract c.loop-i.i c.requires.contract_lt_contract_count.0 (omega arith))))

pub loop-i-preserved : goal.loop-i-preserved
loop-i-preserved c =
    let a = c.args in
    let f : ℕ → ℕ = λ m. get_or a.sums.now m 0 + a.days * nat_abs (get_or a.lots.now (row_place a.contract m) (pos 0)) in
    let net = get_or a.lots.now (row_place a.contract c.loop-i.i) (pos 0) in
    let e : c.unsigned_abs.result ≡ nat_abs net = c.unsigned_abs.ensures.value ∙ ap nat_abs (back net (omega (arith, c.requires.contract_lt_contract_count.2.within c.args.contract c.loop-i.i c.requires.contract_lt_contract_count.0 (omega arith)))) in (
      omega arith,
      simp length-set c.loop-i.invariant.1,
      still_after c.loop-i.sums a.sums.now c.loop-i.i c.loop-i.invariant.2 _,
      rw (e, still_at c.loop-i.sums a.sums.now c.loop-i.i c.loop-i.invariant.2)
          (written_next c.loop-i.sums c.loop-i.i (f c.loop-i.i) _ _ (omega arith) (rw (mapped_next (length a.sums.now) c.loop-i.i f (omega arith)) at c.loop-i.invariant.3)),
    )

pub returns : goal.returns
returns c = written_end c.loop-i.sums c.loop-i.i _ _ (omega arith) (mapped_end _ c.loop-i.i _ (omega arith)) c.loop-i.invariant.3
