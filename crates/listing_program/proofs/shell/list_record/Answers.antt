use borrow.Author.Tests.{not-true, not-false}
use mathlib.Core.Path.{refl}
use native.Mathlib.Omega.{arith}
use Rattle.arith.proofs.Tests.{asked_true, asked_false}
use Rattle.listing_program.proofs.Turning.{listed_stands}
use Rattle.listing_program.proofs.Endings.{listed_part}
use Rattle.listing_program.proofs.shell.list_record.Goals as goal

pub overflow_add-result-2 : goal.overflow_add-result-2
overflow_add-result-2 g c =
    let pre = c.requires.stands in
    omega (arith, pre.0.passed, pre.0.within.inside, pre.1, pre.2)

pub returns-then-not-listed : goal.returns-then-not-listed
returns-then-not-listed g c =
    let a = c.args in
    let line = listed_part a.place.window.from a.size a.input.now a.ledger.members a.ledger.first_year _ _ c.put_record_line-listed.ensures in
    (tt, (asked_false line.sound (not-true _ c.if-not-listed.true), c.finish.ensures))

pub returns : goal.returns
returns g c =
    let pre = c.requires.stands in
    let a = c.args in
    let line = listed_part a.place.window.from a.size a.input.now a.ledger.members a.ledger.first_year _ _ c.put_record_line-listed.ensures in (
      (listed_stands a.place a.size _ pre.0 pre.1 pre.2 (omega (arith, c.put_record_line-listed.ensures.written.short, pre.3)), refl),
      record { sound = asked_true line.sound (not-false _ c.if-not-listed.false); wrote = line.written.wrote; place = refl },
    )
