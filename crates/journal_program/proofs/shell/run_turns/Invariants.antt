use Rattle.std.proofs.Common.{◌≡◌}
use Rattle.journal_program.specs.Places.{Stands}
use Rattle.accounts.specs.Lengths.{SameLengths}
use Rattle.tables.specs.Lent.{tables_of, SameTables}
use Rattle.streams.specs.Windows.{held}
use Rattle.journal_program.specs.Runs.{Reached}
use Rattle.journal_program.proofs.shell.run_turns.Given as goal

abbrev pub invariant-loop : goal.invariant-loop
invariant-loop g l = Stands l.place × (l.place.turns ≡ l.counter)
    × Reached (tables_of l.initial.tables) (tables_of l.tables) l.output l.counter l.place.window.is_last l.place.stage
    l.place.window.filled (held l.place.window l.input)
    × SameLengths (tables_of l.initial.tables) (tables_of l.tables) × SameTables l.initial.tables l.tables
