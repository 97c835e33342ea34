use mathlib.Core.Path.{refl}
use Rattle.number_fields.proofs.HeaderOutcomes.{length_numbers}
use Rattle.number_fields.proofs.headers.header_in.Goals as goal

pub returns : goal.returns
returns c = rw (c.column_in.ensures, c.column_in-2.ensures, length_numbers) refl
