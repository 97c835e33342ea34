use Rattle.std.proofs.Common.{◌∙◌}
use Rattle.rules.specs.Ledger.{lent}
use Rattle.arith.proofs.Tests.{asked_true, asked_false}
use Rattle.damage.proofs.Sound.{lines_short_lem, ledger_decides}
use Rattle.damage.proofs.unsound.is_unsound.Goals as goal

pub returns-then-is_lines_short : goal.returns-then-is_lines_short
returns-then-is_lines_short c =
    let a = c.args in
    let t = lent a.head.now a.prices.now a.lots.now a.value.now a.book.now a.lines.now in
    lines_short_lem t (asked_true (c.is_lines_short.ensures t) c.if-is_lines_short.true)

pub returns : goal.returns
returns c =
    let a = c.args in
    let t = lent a.head.now a.prices.now a.lots.now a.value.now a.book.now a.lines.now in
    c.is_ledger_unsound.ensures t ∙ ledger_decides t (asked_false (c.is_lines_short.ensures t) c.if-is_lines_short.false)
