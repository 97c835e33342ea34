use mathlib.Core.Path.{sym, subst}
use native.Mathlib.Omega.{arith}
use Rattle.rules.specs.Ledger.{Tables}
use Rattle.tables.specs.Lent.{tables_of}
use Rattle.matching.specs.Deals.{line_out}
use Rattle.deal_lines.specs.Lines.{LineFit}
use Rattle.deal_lines.proofs.Takes.{Takes, less_room}
use Rattle.submit.proofs.Lines.{resting_fit, first_takes}
use Rattle.submit.proofs.deals.book_deal.Goals as goal

pub book_line-requires-2-clause-bookable : goal.book_line-requires-2-clause-bookable
book_line-requires-2-clause-bookable c =
    let a = c.args in
    let able = c.requires.bookable in
    let q = c.requires.line_fit in
    let t = tables_of a.tables.now in
    subst (λ (x : Tables). Takes a.d.lots.0 x) (sym (c.book_line.ensures t))
    (first_takes a.o a.d a.k able.1 t q.0 q.1 a.d.lots.0 (less_room _ _ (omega arith) able.0))

pub book_line-requires-2-clause-line_fit : goal.book_line-requires-2-clause-line_fit
book_line-requires-2-clause-line_fit c =
    let a = c.args in
    let small = c.requires.bookable.1 in
    let q = c.requires.line_fit in
    let t = tables_of a.tables.now in
    let fits = resting_fit a.o a.d a.k small t q.0 q.1 in
    (rw c.other_side.ensures (subst (λ (x : Tables). LineFit x.head (line_out a.o a.d)) (sym (c.book_line.ensures t)) fits), omega (arith, small))

pub returns-clause-booked : goal.returns-clause-booked
returns-clause-booked c =
    let t = tables_of c.args.tables.now in
    rw (← (c.book_line.ensures t), ← c.other_side.ensures) (c.book_line-2.ensures t)
