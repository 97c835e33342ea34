use native.Mathlib.Omega.{arith}
use mathlib.Core.Path.{ap, ◌∙◌}
use lib.ListN.{take}
use lib.Seq.{length-take-le}
use Rattle.rules.specs.Ledger.{with_head, with_prices, with_book}
use Rattle.proposal_legs.specs.Proposals.{legs_acceptable}
use Rattle.proposal_legs.proofs.Judged.{too_many}
use Rattle.proposal_legs.proofs.lender.are_first_acceptable.Goals as goal

pub returns-then-count-gt-MOST_LEGS : goal.returns-then-count-gt-MOST_LEGS
returns-then-count-gt-MOST_LEGS c =
    let a = c.args in
    λ t. too_many (with_head a.head.now (with_prices a.prices.now (with_book a.book.now t))) a.count (take a.count a.legs) (omega arith)

pub returns : goal.returns
returns c =
    let a = c.args in
    λ t.
    let u = with_head a.head.now (with_prices a.prices.now (with_book a.book.now t)) in
    c.are_legs_acceptable.ensures t ∙ ap (λ n. legs_acceptable u n (take a.count a.legs)) (length-take-le a.count a.legs (omega arith))
