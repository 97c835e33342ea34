use borrow.Author.Rules.{rules}
use Rattle.host.proofs.Answers.{answered_lent}
use Rattle.host.proofs.ledger_apply.Goals as goal

pub returns : goal.returns
returns c =
    let done = c.apply-answer.ensures in
    answered_lent _ done.answer c.reply_of-reply.ensures.0 c.reply_of-reply.ensures.1 done.same
    (search rules) (search rules) (search rules) (search rules) (search rules) (search rules)
