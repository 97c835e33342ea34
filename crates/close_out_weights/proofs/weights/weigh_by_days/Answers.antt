use Prim.Native.Nat.{◌+◌, ◌-◌}
use mathlib.Core.Path.{◌≡◌, ap, ◌∙◌}
use native.Mathlib.Omega.{arith}
use lib.ListN.{length, get_or}
use Rattle.rules.specs.Ledger.{with_head, with_rows}
use Rattle.close_out_weights.proofs.Still.{zeros_front}
use Rattle.close_out_weights.proofs.DayWeights.{open_days_length, open_days_most, weights_by_days}
use Rattle.close_out_weights.proofs.weights.weigh_by_days.Goals as goal

pub weigh-requires : goal.weigh-requires
weigh-requires c =
    let few = c.requires.0.most_members_holds in
    let d = c.find_open_days.ensures in record { head_fit = (c.requires.0, c.requires.1, c.requires.2, rw (← c.requires.2) (zeros_front (length c.args.weights.now) 32 (omega arith))); days_len = (ap length d ∙ open_days_length _ _, λ i. rw d (open_days_most _ _ i)) }

pub returns : goal.returns
returns c =
    let a = c.args in
    let h = a.head.now in
    let cut : 8 + get_or h 2 0 - 8 ≡ get_or h 2 0 = omega arith in
    λ t v. c.weigh.ensures ∙ weights_by_days (with_head h (with_rows a.lots.now v t)) _ (rw cut at c.find_open_days.ensures)
