use mathlib.Core.List.{[]}
use native.Mathlib.Omega.{arith}
use Rattle.months.proofs.Starts.{starts_made}
use Rattle.months.proofs.span.read_starts.Goals as goal

pub read_months-requires : goal.read_months-requires
read_months-requires c = rw (c.first_month.ensures []) (omega arith)

pub returns : goal.returns
returns c =
    let read = rw c.requires.1 at c.read_months.ensures in
    λ h. starts_made (record { first_year = c.args.first_year; holidays = h }) _ _ read (c.first_month.ensures h)
