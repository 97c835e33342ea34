use Rattle.std.proofs.Common.{◌≡◌, length}
use Rattle.streams.specs.Windows.{Within}
use Rattle.listing_program.specs.Places.{input_length, output_length}
use Rattle.listing_program.proofs.shell.read_header.Given as goal

abbrev pub invariant-loop : goal.invariant-loop
invariant-loop g l = Within input_length output_length l.window × (length l.input ≡ input_length)
