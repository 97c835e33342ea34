use mathlib.Core.Path.{refl}
use Rattle.journal_program.specs.Runs.{read_to_end, header_unsound, record_unsound, stays}
use Rattle.journal_program.proofs.Ending.{below_last, ends_finished}
use borrow.Author.Rules.{rules}
use Rattle.journal_program.proofs.shell.go_on.Goals as goal

pub returns-in-ReadToEnd : goal.returns-in-ReadToEnd
returns-in-ReadToEnd g c = (tt, λ input. ends_finished c.in-ReadToEnd.is refl read_to_end c.finish.ensures)

pub returns-in-RecordUnsound : goal.returns-in-RecordUnsound
returns-in-RecordUnsound g c = (tt, λ input. ends_finished c.in-RecordUnsound.is refl record_unsound c.finish-in-RecordUnsound.ensures)

pub returns-in-HeaderUnsound : goal.returns-in-HeaderUnsound
returns-in-HeaderUnsound g c = (tt, λ input. ends_finished c.in-HeaderUnsound.is refl header_unsound c.finish-in-HeaderUnsound.ensures)

pub returns-in_default : goal.returns-in_default
returns-in_default g c =
    let d = c.in_default in
    let below = below_last c.args.place.stage d.not-ReadToEnd d.not-RecordUnsound d.not-HeaderUnsound in
    (search rules, λ input. (refl, stays below refl refl))
