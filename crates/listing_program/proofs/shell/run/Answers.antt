use native.Mathlib.Omega.{arith}
use mathlib.Core.List.{[]}
use Rattle.listing_program.proofs.Endings.{header_ended, listing_failed}
use Rattle.listing_program.proofs.shell.run.Goals as goal

pub list_from-requires : goal.list_from-requires
list_from-requires g c = (rw c.in-Ok.is at c.read_header.ensures.0, omega arith, omega arith)

pub returns-in-Ok : goal.returns-in-Ok
returns-in-Ok g c = (_, c.list_from.ensures)

pub returns-in-Err : goal.returns-in-Err
returns-in-Err g c = ([], listing_failed (header_ended _ c.read_header.ensures.1 c.in-Err.is))
