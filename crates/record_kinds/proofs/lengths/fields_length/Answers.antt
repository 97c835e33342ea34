use native.Mathlib.Omega.{arith}
use mathlib.Core.Path.{ap}
use Rattle.rules.specs.Fields.{widths}
use Rattle.record_kinds.proofs.ByKind.{no_fields}
use Rattle.record_kinds.proofs.lengths.fields_length.Goals as goal

pub returns-in_default : goal.returns-in_default
unfolding widths
returns-in_default c =
    let r = c.in_default.in_default-own.rest in
    (ap widths (no_fields _ r.0.0.0.0.0.0.1 r.0.0.0.0.0.1 r.0.0.0.0.1 r.0.0.0.1 r.0.0.1 r.0.1 r.1), omega arith)
