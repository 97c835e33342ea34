use Rattle.std.proofs.Common.{◌≡◌}
use Rattle.listing_program.specs.Places.{Stands}
use Rattle.listing_program.proofs.shell.list_records.Given as goal

abbrev pub invariant-loop : goal.invariant-loop
invariant-loop g l = Stands l.place × (l.place.turns ≡ l.counter)
