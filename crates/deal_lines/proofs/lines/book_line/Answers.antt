use Rattle.deal_lines.specs.Lines.{with_line}
use Rattle.rules.proofs.Sides.{abs_signed}
use Rattle.deal_lines.proofs.lines.book_line.Goals as goal

pub returns : goal.returns
unfolding with_line
returns c =
    let args = c.args in
    let post-line = c.post_line in
    let print-line = c.print_line in
    let l = args.line in λ t. rw (abs_signed l.side l.lots.0, post-line.ensures.lots_after, post-line.ensures.value_after, print-line.ensures)
