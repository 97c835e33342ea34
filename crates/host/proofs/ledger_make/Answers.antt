use Rattle.rules.specs.Ledger.{lent}
use Rattle.host.proofs.Answers.{made}
use Rattle.host.proofs.ledger_make.Goals as goal

pub returns : goal.returns
returns c =
    let a = c.args in
    λ n. made (lent a.head.now a.prices.now a.lots.now a.value.now a.book.now n) _ a.header.now c.make-answer.result c.reply_of.result.number
    (c.make-answer.ensures n) c.reply_of.ensures.0
