use mathlib.Core.Path.{◌≡◌, sym, ap, ◌∙◌}
use native.Mathlib.Omega.{arith}
use lib.ListN.{length, length-take}
use lib.Seq.{take_at}
use Rattle.rules.proofs.Minimums.{minimums_length}
use Rattle.dealing.proofs.turns.deal_out.Goals as goal

pub find_minimums-requires : goal.find_minimums-requires
find_minimums-requires c = record { lots_le_most_lots_run = (omega arith, c.requires.lots_le_most_lots_run.1, simp length-take (omega arith)); member_column = c.requires.member_column }

pub slice_bounds-deal_by_minimums-end : goal.slice_bounds-deal_by_minimums-end
slice_bounds-deal_by_minimums-end c =
    let long : length c.find_minimums.new.minima ≡ length c.args.weights.now = ap length c.find_minimums.ensures
    ∙ minimums_length _ _ in
    sym (ap length (take_at c.find_minimums.new.minima _ _ long) ∙ long)

pub deal_by_minimums-requires : goal.deal_by_minimums-requires
deal_by_minimums-requires c =
    let find-minimums = c.find_minimums in
    let long : length find-minimums.new.minima ≡ length c.args.weights.now = ap length find-minimums.ensures ∙ minimums_length _ _ in
    record { lots_le_most_lots_run = c.requires.lots_le_most_lots_run; member_column = (c.requires.member_column, take_at find-minimums.new.minima _ _ long ∙ find-minimums.ensures) }
