-- A ledger's span as two days, and the first days of its months.
use Rattle.std.specs.Prelude.{ℕ, ◌+◌, ◌≡◌, Bool, ◌&&◌, List, map, leb, ltb}
use Rattle.arith.specs.Lists.{from}
use Rattle.rules.specs.Ranges.{months_in_span}
use Rattle.rules.specs.Days.{Calendar, month_start, first_month, span_start, day_after_span}
use Rattle.months.specs.declared.months.Span.{Span}

pub record IsSpan (s : Span) (k : Calendar) : Type 0 where
  pub starts : s.start.0 ≡ span_start k
  pub ends : s.end.0 ≡ day_after_span k

-- A span is that of a first year, whatever the holidays.
abbrev pub IsSpanOf : Span → ℕ → Type 0
IsSpanOf s year = (h : List ℕ) → IsSpan s (record { first_year = year; holidays = h })

-- Whether a day is one of a span's days; `lies_in_lem` of proofs/Starts says that it is inSpan of a ledger's span.
abbrev pub lies_in : Span → ℕ → Bool
lies_in s d = leb s.start.0 d && ltb d s.end.0

-- The first days of the ledger's months, then the first day after them.
unfoldable pub starts_of : Calendar → List ℕ
starts_of k = map (λ i. month_start (first_month k + i)) (from 0 (months_in_span + 1))

-- The last month of the table, January 2100, counted from January 2020.
abbrev pub last_month : ℕ
last_month = 960

-- The first day of that month; `last_month_lem` of rules/proofs/CalendarLaws says that month_start gives it.
abbrev pub last_month_start : ℕ
last_month_start = 29220
