-- Document 01, "The two accounts of demand 3": the two bookkeepers, and what is demanded of them.
use Rattle.std.specs.Prelude.{ℕ, ◌*◌, ◌≤◌, ◌<◌, ◌≡◌, Bool, cond, not, List, [], ◌∷◌, ◌++◌, T, eqb, ℤ, pos, ◌+ℤ◌, Option, Some, None, Result}
use Rattle.arith.specs.Ints.{when, sum}
use Rattle.rules.specs.Answers.{Outcome, reply_of}
use Rattle.rules.specs.Ranges.{contract_count}
use Rattle.rules.specs.Days.{Calendar, span_start, day_after_span, next_business_day}
use Rattle.rules.specs.ContractTerms.{holds_hour, has_cascaded}
use Rattle.rules.specs.Header.{Header, calendar_of, header_of, begins_with_header}
use Rattle.rules.specs.Ledger.{Tables, Line, with_lines, lots_at, value_at, line_lots, line_value, first_lines, ledger_short}
use Rattle.rules.specs.Records.{is_close_of_day, read_of}
use Rattle.rules.specs.Refusals.{apply_spec, make_spec}
use Rattle.rules.specs.declared.event.Event.{Event}
use Rattle.rules.specs.declared.refusal.Refusal.{Refusal}
use Rattle.rules.specs.declared.units.DayNo.{DayNo}

-- ---- the list of calls
-- Each call is given any bytes as its record, and any line table.
pub record Call : Type 0 where
  pub bytes : List ℕ
  pub lines : List ℤ

-- The other lent tables stand as the call before left them.
abbrev pub call_spec : Tables → Call → Outcome Tables
call_spec t call = apply_spec (with_lines call.lines t) call.bytes

unfoldable pub after : Tables → List Call → Tables
after t [] = t
after t (call ∷ calls) = after (call_spec t call).after calls

-- An accepted record has number 0.
abbrev pub is_accepted : Result ℕ Refusal → Bool
is_accepted a = eqb (reply_of a).number 0

-- The lines of an accepted record: the first places of the line table, as many as the answer says.
-- A refused record gives nothing.
abbrev pub lines_of : Result ℕ Refusal → List ℤ → List Line
lines_of a l = cond (is_accepted a) (first_lines (reply_of a).detail l) []

-- All lines of the list's accepted records, in printed order.
unfoldable pub log : Tables → List Call → List Line
log t [] = []
log t (call ∷ calls) = let o = call_spec t call in lines_of o.answer o.after.lines ++ log o.after calls

-- ---- the engine's account
-- The sum of a member's rows over all contracts whose period holds the hour.
unfoldable pub engine_account : Calendar → (ℕ → ℕ → ℤ) → ℕ → ℕ → ℤ
engine_account k row m h = sum contract_count (λ c. when (holds_hour k c h) (row c m))

-- ---- the other account
-- It starts at zero for every member and hour. Each deal line, in printed order, adds its amount to its member in
-- every hour of its contract's period.
unfoldable pub entered : Calendar → (Line → ℤ) → List Line → (ℕ → ℕ → ℤ) → ℕ → ℕ → ℤ
entered k amount [] account = account
entered k amount (l ∷ ls) account =
    entered k amount ls (λ m h. account m h +ℤ when (eqb l.member m) (when (holds_hour k l.contract h) (amount l)))

unfoldable pub other_account : Calendar → (Line → ℤ) → List Line → ℕ → ℕ → ℤ
other_account k amount ls = entered k amount ls (λ m h. pos 0)

-- ---- the list's day
-- An accepted close of day moves it to the next day; any other call leaves it.
abbrev pub day_reached : ℕ → Option DayNo → ℕ
day_reached d (Some x) = x.0
day_reached d None = d

abbrev pub day_after_event : Calendar → ℕ → Option Event → ℕ
day_after_event k d (Some e) = cond (is_close_of_day e) (day_reached d (next_business_day k d)) d
day_after_event k d None = d

unfoldable pub lists_day : Header → ℕ → Tables → List Call → ℕ
lists_day h d t [] = d
lists_day h d t (call ∷ calls) =
    let o = call_spec t call in
    lists_day h (cond (is_accepted o.answer) (day_after_event (calendar_of h) d (read_of h.members call.bytes)) d) o.after calls

-- ---- demand 3
-- A column of rows with what a line adds to it: lots, or value.
pub data Column : Type 0 where
  lots : Column
  value : Column

abbrev pub row : Column → Tables → ℕ → ℕ → ℤ
row lots t = lots_at t
row value t = value_at t

abbrev pub amount : Column → Line → ℤ
amount lots = line_lots
amount value = line_value

-- h is a delivery hour of the six years, counted from the first hour of day 0.
abbrev pub DeliveryHour : Calendar → ℕ → Type 0
DeliveryHour k h = (24 * span_start k ≤ h) × (h < 24 * day_after_span k)

-- What holds of the tables t after a list whose log is ls, on the list's day d, for the header h.
pub record Agrees (h : Header) (t : Tables) (ls : List Line) (d : ℕ) : Type 0 where
  -- the same lots and value for each member in every hour
  pub same : (x : Column) (m hour : ℕ) → m < h.members → DeliveryHour (calendar_of h) hour
      → engine_account (calendar_of h) (row x t) m hour ≡ other_account (calendar_of h) (amount x) ls m hour
  -- sums over members are zero, in both accounts
  pub engine_zero : (x : Column) (hour : ℕ) → DeliveryHour (calendar_of h) hour → sum h.members (λ m. engine_account (calendar_of h) (row x t) m hour) ≡ pos 0
  pub other_zero : (x : Column) (hour : ℕ) → DeliveryHour (calendar_of h) hour → sum h.members (λ m. other_account (calendar_of h) (amount x) ls m hour) ≡ pos 0
  -- nothing is left in a contract that has cascaded
  pub nothing_left : (x : Column) (c m : ℕ) → c < contract_count → m < h.members → T (has_cascaded (calendar_of h) d c) → row x t c m ≡ pos 0

-- For every sound header, all lent tables of sufficient length, whatever they hold, and every list of calls, from the
-- fresh ledger.
abbrev pub Demand3 : Type 0
Demand3 =
    (header : List ℕ) (t : Tables) (calls : List Call)
    → T (begins_with_header header)
    → T (not (ledger_short t))
    → let h = header_of header in
    let start = (make_spec t header).after in
    Agrees h (after start calls) (log start calls) (lists_day h h.start_day start calls)
