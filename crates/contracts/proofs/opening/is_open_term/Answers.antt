use mathlib.Core.Path.{sym, ap, ◌∙◌}
use mathlib.Core.Bool.{not}
use Rattle.rules.proofs.CalendarLaws.{open_closed, open_first, open_rank}
use Rattle.contracts.proofs.opening.is_open_term.Goals as goal

pub returns-then-not-still_to_close : goal.returns-then-not-still_to_close
returns-then-not-still_to_close c = sym (open_closed _ _ _ (sym c.still_to_close.ensures ∙ c.if-not-still_to_close.true))

pub returns-then-t-n : goal.returns-then-t-n
returns-then-t-n c = sym (open_first _ _ _ (sym c.still_to_close.ensures ∙ c.if-not-still_to_close.false) (rw c.open_count-n.ensures at c.if-t-n.true))

pub returns : goal.returns
returns c =
    let open-count = c.open_count-n in
    let test1 = c.if-not-still_to_close in
    let still-to-close = c.still_to_close in
    let o = open_rank _ _ _ (sym still-to-close.ensures ∙ test1.false) (rw open-count.ensures at c.if-t-n.false) in
    ap not (rw open-count.ensures at c.still_to_close-2.ensures) ∙ sym o
