use mathlib.Core.Path.{sym, ◌∙◌}
use native.Mathlib.Omega.{arith}
use Rattle.rules.specs.Refusals.{apply_spec, reading_spec}
use Rattle.tables.specs.Lent.{tables_of}
use Rattle.tables.proofs.Fits.{fits}
use Rattle.engine.proofs.Events.{unsound_of}
use Rattle.engine.proofs.applying.apply.Goals as goal

pub returns-then-is_unsound-clause-answer : goal.returns-then-is_unsound-clause-answer
unfolding apply_spec
returns-then-is_unsound-clause-answer c =
    let asked = unsound_of (tables_of c.args.tables.now) c.head.ensures c.prices.ensures c.lots.ensures c.value.ensures c.book.ensures c.lines.ensures in
    rw (sym (c.is_unsound.ensures ∙ asked) ∙ c.if-is_unsound.true)

pub bounds-tables-1 : goal.bounds-tables-1
bounds-tables-1 c =
    let t = tables_of c.args.tables.now in
    let asked = unsound_of t c.head.ensures c.prices.ensures c.lots.ensures c.value.ensures c.book.ensures c.lines.ensures in
    let f = fits t (sym (c.is_unsound.ensures ∙ asked) ∙ c.if-is_unsound.false) in
    omega (arith, f.head_fit.long)

pub apply_event-requires : goal.apply_event-requires
apply_event-requires c =
    let t = tables_of c.args.tables.now in
    let asked = unsound_of t c.head.ensures c.prices.ensures c.lots.ensures c.value.ensures c.book.ensures c.lines.ensures in
    (fits t (sym (c.is_unsound.ensures ∙ asked) ∙ c.if-is_unsound.false), sym c.read_record.ensures ∙ c.in-Some.is)

pub returns-in-Some-clause-answer : goal.returns-in-Some-clause-answer
unfolding apply_spec reading_spec
returns-in-Some-clause-answer c =
    let asked = unsound_of (tables_of c.args.tables.now) c.head.ensures c.prices.ensures c.lots.ensures c.value.ensures c.book.ensures c.lines.ensures in
    rw (sym (c.is_unsound.ensures ∙ asked) ∙ c.if-is_unsound.false, sym c.read_record.ensures ∙ c.in-Some.is) c.apply_event.ensures.answer

pub returns-in-None-clause-answer : goal.returns-in-None-clause-answer
unfolding apply_spec reading_spec
returns-in-None-clause-answer c =
    let asked = unsound_of (tables_of c.args.tables.now) c.head.ensures c.prices.ensures c.lots.ensures c.value.ensures c.book.ensures c.lines.ensures in
    rw (sym (c.is_unsound.ensures ∙ asked) ∙ c.if-is_unsound.false, sym c.read_record.ensures ∙ c.in-None.is)
