use native.Mathlib.Omega.{arith}
use mathlib.Core.Path.{ap, ◌∙◌}
use borrow.Author.Rules.{rules}
use lib.ListN.{length}
use Rattle.rules.specs.Answers.{Outcome}
use Rattle.rules.specs.Ledger.{Tables}
use Rattle.accounts.proofs.LengthsStay.{lengths_stay}
use Rattle.tables.specs.Lent.{tables_of}
use Rattle.journal.proofs.OneRecord.{few_lines, printed_lines, printed_refusal}
use Rattle.journal.proofs.record.run_record.Goals as goal

pub put_deals-requires : goal.put_deals-requires
put_deals-requires c =
    let pre = c.requires in
    let answer = c.apply-answer.ensures.answer in
    let few = few_lines _ _ _ _ _ _ answer c.reply_of-reply.ensures.0 c.reply_of-reply.ensures.1 c.if-reply-eq-ACCEPTED.true in
    let kept = ap (λ (o : Outcome Tables). length o.after.lines) answer ∙ (lengths_stay (tables_of c.args.tables.now) c.args.bytes.now).lines in
    (omega (arith, pre.0), omega (arith, pre.1, kept, ap length c.lines.ensures))

pub returns-then-reply-eq-ACCEPTED-clause-ran : goal.returns-then-reply-eq-ACCEPTED-clause-ran
returns-then-reply-eq-ACCEPTED-clause-ran c =
    let answer = c.apply-answer.ensures.answer in
    let few = few_lines _ _ _ _ _ _ answer c.reply_of-reply.ensures.0 c.reply_of-reply.ensures.1 c.if-reply-eq-ACCEPTED.true in
    printed_lines _ _ _ _ _ _ _ _ _ _ answer c.reply_of-reply.ensures.0 c.reply_of-reply.ensures.1 c.if-reply-eq-ACCEPTED.true few
    (rw c.lines.ensures at c.put_deals.ensures)

pub returns-clause-ran : goal.returns-clause-ran
returns-clause-ran c =
    printed_refusal _ _ _ _ _ _ _ _ _ _ c.apply-answer.ensures.answer c.reply_of-reply.ensures.0 c.reply_of-reply.ensures.1 _
    c.if-reply-eq-ACCEPTED.false (search rules) c.put_refusal.ensures
