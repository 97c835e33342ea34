use mathlib.Core.Path.{sym, ◌∙◌}
use Rattle.tables.specs.Lent.{tables_of}
use Rattle.tables.proofs.Fits.{fits}
use Rattle.proposal_cases.proofs.show_check.Goals as goal

pub are_first_acceptable-requires : goal.are_first_acceptable-requires
are_first_acceptable-requires g c =
    let read = rw (c.head.ensures, c.prices.ensures, c.lots.ensures, c.value.ensures, c.book.ensures, c.lines.ensures) at c.is_unsound.ensures in
    let fit = fits (tables_of c.args.tables.now) (sym read ∙ c.if-is_unsound.false) in
    rw (c.head-2.ensures, c.prices-2.ensures, c.book-2.ensures) (fit.head_fit, fit.book_fit, fit.prices_fit.long)
