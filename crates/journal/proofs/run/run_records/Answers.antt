use Rattle.std.proofs.Common.{refl, arith}
use Rattle.tables.proofs.Same.{same_none, same_then}
use Rattle.journal.proofs.Running.{runs_start, one_at_most, lengths_kept, found_fits, found_ran, none_found}
use Rattle.journal.proofs.run.run_records.Goals as goal

pub loop-n-init : goal.loop-n-init
loop-n-init c = (runs_start _ _ _ _ _ _ _ c.requires.0 c.requires.2, same_none)

pub overflow_add-next : goal.overflow_add-next
overflow_add-next c = omega (arith, found_fits c.loop-n.invariant.0 c.ready_length.ensures c.in-Some.is)

pub slice_bounds-run_record-end : goal.slice_bounds-run_record-end
slice_bounds-run_record-end c = omega (arith, found_fits c.loop-n.invariant.0 c.ready_length.ensures c.in-Some.is)

pub overflow_add-counted : goal.overflow_add-counted
overflow_add-counted c = omega (arith, c.loop-n.invariant.0.few, c.loop-n.invariant.0.inside, c.requires.1)

pub run_record-done-requires : goal.run_record-done-requires
run_record-done-requires c =
    (omega (arith, found_fits c.loop-n.invariant.0 c.ready_length.ensures c.in-Some.is), omega (arith, (lengths_kept c.loop-n.invariant.0).lines, c.requires.3))

pub overflow_add-accepted : goal.overflow_add-accepted
overflow_add-accepted c =
    let w = c.loop-n.invariant.0 in
    omega (arith, w.below, w.few, w.inside, c.requires.1, one_at_most c.run_record-done.result.is_accepted c.from-accepted.ensures)

pub loop-n-smaller : goal.loop-n-smaller
loop-n-smaller c = omega (arith, found_fits c.loop-n.invariant.0 c.ready_length.ensures c.in-Some.is)

pub loop-n-preserved : goal.loop-n-preserved
loop-n-preserved c = (
  found_ran c.loop-n.invariant.0 c.ready_length.ensures c.in-Some.is c.run_record-done.ensures.ran c.run_record-done.auto.out c.from-accepted.ensures,
  same_then c.loop-n.invariant.1 c.run_record-done.ensures.same,
)

pub returns : goal.returns
returns c =
    record {
      records_run = none_found c.loop-n.invariant.0 c.ready_length.ensures c.in_default.is refl c.where_ended-stage.ensures.stage c.where_ended-stage.ensures.wants;
      same = c.loop-n.invariant.1;
    }
