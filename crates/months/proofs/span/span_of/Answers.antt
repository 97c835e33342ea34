use mathlib.Core.List.{[]}
use native.Mathlib.Omega.{arith}
use Rattle.rules.specs.Days.{span_start, day_after_span}
use Rattle.months.proofs.span.span_of.Goals as goal

pub overflow_add-month : goal.overflow_add-month
overflow_add-month c = rw (c.first_month-month.ensures []) (omega arith)

pub months_span-requires : goal.months_span-requires
months_span-requires c = rw (c.first_month-month.ensures []) (omega arith, omega arith)

pub returns : goal.returns
unfolding span_start day_after_span
returns c =
    let m = rw (c.first_month-month.ensures []) at c.months_span.ensures in
    λ h. record { starts = m.0; ends = m.1 }
