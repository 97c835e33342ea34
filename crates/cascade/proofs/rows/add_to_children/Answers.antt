use mathlib.Core.Path.{refl, sym, ap, ◌∙◌}
use native.Mathlib.Omega.{arith}
use lib.IntN.{pos}
use lib.ListN.{length, get_or}
use lib.Seq.{get_or-take}
use Rattle.arith.proofs.Scans.{from_end}
use Rattle.rules.specs.CloseOfDay.{added_to}
use Rattle.rules.proofs.Cascade.{rows_at}
use Rattle.cascade.proofs.Cascades.{adding_next}
use Rattle.cascade.proofs.rows.add_to_children.Goals as goal

pub rows_from-parent-requires : goal.rows_from-parent-requires
rows_from-parent-requires c = (omega arith, omega (arith, c.requires.rows_fit.0.long))

pub loop-child-init : goal.loop-child-init
loop-child-init c =
    let pre = c.requires in
    let a = c.args in
    let t = a.rows.now in
    let fit = pre.rows_fit.0 in
    let parent = c.rows_from-parent.result in
    record {
      after = omega arith;
      most = omega arith;
      same = refl;
      lent = c.rows_from-parent.ensures.0;
      parent_fit = λ m k. rw (sym (get_or-take a.members parent m (pos 0) k) ∙ ap (λ l. get_or l m (pos 0)) c.rows_from-parent.ensures.0
          ∙ rows_at a.members a.contract t fit.long (omega arith) (omega arith) m k)
          (fit.within a.contract m (omega arith) k);
      rest_fit = λ c m l u k. fit.within c m u k;
      known = refl;
    }

pub add_to_child-requires : goal.add_to_child-requires
add_to_child-requires c =
    let pre = c.requires in
    record { rows_length_in_bounds = (omega (arith, c.loop-child.invariant.same, pre.rows_fit.0.long), omega arith, omega arith); by_index = λ m k. omega (arith, c.loop-child.invariant.parent_fit m k, c.loop-child.invariant.rest_fit c.loop-child.child m (omega arith) (omega arith) k) }

pub loop-child-preserved : goal.loop-child-preserved
loop-child-preserved c =
    let pre = c.requires in
    let a = c.args in
    rw c.add_to_child.ensures
    (adding_next a.members a.contract a.end (length a.rows.now) _ c.rows_from-parent.result (omega arith) (omega arith) pre.rows_fit.0.long c.loop-child.child c.loop-child.rows
    (omega arith) c.loop-child.invariant)

pub shape_of-rows : goal.shape_of-rows
shape_of-rows c = c.loop-child.invariant.same

pub returns : goal.returns
unfolding added_to
returns c =
    let a = c.args in
    rw (from_end c.loop-child.child a.end (omega arith)) at c.loop-child.invariant.known
