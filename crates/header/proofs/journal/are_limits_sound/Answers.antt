use Rattle.std.proofs.Common.{rules, ◌≤◌, ◌↔◌, IsTrue, EachIndex, slice_index}
use Rattle.header.proofs.Headers.{limits_told}
use Rattle.header.proofs.journal.are_limits_sound.Goals as goal

pub returns : goal.returns
returns c =
    let l = c.args.limits.now in
    let told : IsTrue c.all.result ↔ EachIndex l (λ k. slice_index l k ≤ 100000) = search rules in
    limits_told l c.all.result told
