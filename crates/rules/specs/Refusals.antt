-- Document 01, "Why a record is turned back": damage, the causes of each kind of record in the order of their ranks, and one call.
use Rattle.std.specs.Prelude.{ℕ, ◌+◌, ◌*◌, Bool, true, not, ◌&&◌, ◌||◌, List, [], ◌∷◌, map, eqb, leb, ltb, length, take, get_or, ℤ, nat_abs, Option, Some, None, Ok, Err}
use Rattle.arith.specs.Lists.{every, any, kept, from, every_block, all_of}
use Rattle.rules.specs.declared.refusal.Refusal.TheVariants.{TableUnsound, HeaderUnsound, RecordUnsound, TimeBelowLedger, MemberDefaulted, ContractNotOpen}
use Rattle.rules.specs.declared.refusal.Refusal.TheVariants.{PriceOutsideLimits, SixthSubmit, AboveLimit, CannotMatchInFull, BookFull, NoSuchOrder, NotAcceptable}
use Rattle.rules.specs.declared.refusal.Refusal.TheVariants.{NoReferencePrice, NoDefaultedLots, NoTaker, TotalPassed, NoLaterDay}
use Rattle.rules.specs.declared.event.Cancellation.{Cancellation}
use Rattle.rules.specs.declared.event.CloseOutTerms.{CloseOutTerms}
use Rattle.rules.specs.declared.event.Event.{Event}
use Rattle.rules.specs.declared.event.Event.TheVariants.{Submit, Cancel, DayLimits, Proposal, Default, CloseOut, CloseOfDay}
use Rattle.rules.specs.declared.event.Leg.{Leg}
use Rattle.rules.specs.declared.event.NewDayLimits.{NewDayLimits}
use Rattle.rules.specs.declared.event.Submission.{Submission}
use Rattle.rules.specs.declared.order.Order.{Order}
use Rattle.rules.specs.Answers.{Outcome, Cause, decide}
use Rattle.rules.specs.Ranges.{contract_count, most_holidays, most_price, most_orders, most_submits_in_second, most_lots_run, most_accepted_submits}
use Rattle.rules.specs.Days.{in_span}
use Rattle.rules.specs.Header.{calendar_sound, members_sound, limit_sound, day_sound, header_of, begins_with_header}
use Rattle.rules.specs.Ledger.{Tables, Line, with_prices, members, holiday_count, day, time, accepted_submits, lots_run, order_count, limit, default_mark, mark, submits_this_second, calendar}
use Rattle.rules.specs.Ledger.{defaulted, is_open, price_width, ggf_place, low_place, high_place, day_lots_place, day_value_place, ggf, low, high, with_day_limits, row_width, side_at}
use Rattle.rules.specs.Ledger.{orders, resting, with_orders, line_run, booked, timed, ledger_short, lines_short, fresh}
use Rattle.rules.specs.Records.{time_sound, side_sound, contract_sound, price_sound, lots_sound, day_limits_sound, legs_of, read_of}
use Rattle.rules.specs.Matching.{submit_matched, submit_lines, is_teye, would_rest, submits_at, above_limit, submit_booked}
use Rattle.rules.specs.Synthetic.{acceptable, proposal_lines, proposal_booked}
use Rattle.rules.specs.CloseOfDay.{has_next_day, close_booked}
use Rattle.rules.specs.Default.{default_booked, sum_of, defaulted_longs, defaulted_shorts, lots_remaining, weights, close_out_lines, close_out_booked}

-- ---- damage (1)
-- Every row of the members of every contract.
unfoldable pub every_row : (ℤ → Bool) → ℕ → List ℤ → Bool
every_row p n l = every_block row_width (λ rows. every p (take n rows)) contract_count l

-- A row's lots do not pass the lots run in absolute size, nor its value 1,000,000 times that.
unfoldable pub rows_sound : Tables → Bool
rows_sound t = every_row (λ z. leb (nat_abs z) (lots_run t)) (members t) t.lots && every_row (λ z. leb (nat_abs z) (most_price * lots_run t)) (members t) t.value

-- A contract's five numbers: its GGF is 0 or a price, low and high are in their ranges, M does not pass the lots run,
-- and V is from M to 1,000,000 M.
unfoldable pub contract_prices_sound : ℕ → List ℕ → Bool
contract_prices_sound run prices =
    let m = get_or prices (day_lots_place 0) 0 in
    let v = get_or prices (day_value_place 0) 0 in
    all_of
    (leb (get_or prices (ggf_place 0) 0) most_price
    ∷ day_limits_sound (get_or prices (low_place 0) 0) (get_or prices (high_place 0) 0)
    ∷ leb m run
    ∷ leb m v
    ∷ leb v (most_price * m)
    ∷ [])

unfoldable pub prices_sound : Tables → Bool
prices_sound t = every_block price_width (contract_prices_sound (lots_run t)) contract_count t.prices

-- A member's limit, mark and count in the present second.
unfoldable pub member_sound : Tables → ℕ → Bool
member_sound t m = all_of (limit_sound (limit t m) ∷ leb (mark t m) default_mark ∷ leb (submits_this_second t m) most_submits_in_second ∷ [])

-- The header's fields, the day, the time, the counts of the ledger and the fields of each member.
unfoldable pub head_sound : Tables → Bool
head_sound t =
    all_of
    (leb (holiday_count t) most_holidays
    ∷ calendar_sound (calendar t)
    ∷ members_sound (members t)
    ∷ day_sound (calendar t) (day t)
    ∷ time_sound (time t)
    ∷ leb (accepted_submits t) most_accepted_submits
    ∷ leb (lots_run t) most_lots_run
    ∷ leb (order_count t) most_orders
    ∷ every (member_sound t) (from 0 (members t))
    ∷ [])

-- An order's fields in their ranges, its number below the count of accepted submits. A side is tested as it stands in
-- the table, 0 or 1, since an order has no other.
unfoldable pub order_sound : Tables → Order → Bool
order_sound t o =
    all_of
    (ltb o.number (accepted_submits t)
    ∷ ltb o.member (members t)
    ∷ contract_sound o.contract
    ∷ price_sound o.price.0
    ∷ lots_sound o.lots.0
    ∷ in_span (calendar t) o.day.0
    ∷ time_sound o.time
    ∷ [])

unfoldable pub sides_sound : Tables → Bool
sides_sound t = every (λ i. side_sound (side_at t.book i)) (from 0 (order_count t))

-- No two share a number.
unfoldable pub distinct : List ℕ → Bool
distinct [] = true
distinct (n ∷ ns) = not (any (eqb n) ns) && distinct ns

unfoldable pub book_sound : Tables → Bool
book_sound t = all_of (sides_sound t ∷ every (order_sound t) (orders t) ∷ distinct (map (λ o. o.number) (orders t)) ∷ [])

unfoldable pub damaged : Tables → Bool
damaged t = not (all_of (head_sound t ∷ prices_sound t ∷ rows_sound t ∷ book_sound t ∷ []))

-- A lent table is too short or damaged, the line table apart.
unfoldable pub ledger_unsound : Tables → Bool
ledger_unsound t = ledger_short t || damaged t

-- The same, or there are under 200 places for lines: what turns back every record.
unfoldable pub unsound : Tables → Bool
unsound t = ledger_unsound t || lines_short t

-- ---- the causes of each kind, in the order of their ranks
-- The lots run would pass 5,000,000.
abbrev pub run_would_pass : Tables → List Line → Bool
run_would_pass t ls = ltb most_lots_run (lots_run t + line_run ls)

abbrev pub submit_causes : Tables → Submission → List Cause
submit_causes t e =
    (ltb e.time (time t), TimeBelowLedger)
    ∷ (defaulted t e.member, MemberDefaulted e.member)
    ∷ (not (is_open t e.contract), ContractNotOpen e.contract)
    ∷ (ltb e.price.0 (low t e.contract) || ltb (high t e.contract) e.price.0, PriceOutsideLimits)
    ∷ (leb most_submits_in_second (submits_at t e.time e.member), SixthSubmit)
    ∷ (above_limit t e, AboveLimit)
    ∷ (is_teye e.kind && ltb 0 (submit_matched t e).left, CannotMatchInFull)
    ∷ (would_rest t e && leb most_orders (length (submit_matched t e).resting), BookFull)
    ∷ (run_would_pass t (submit_lines t e) || leb most_accepted_submits (accepted_submits t), TotalPassed)
    ∷ []

-- The resting order that a cancel names.
abbrev pub is_cancelled : Cancellation → Order → Bool
is_cancelled e o = eqb o.number e.order && eqb o.member e.member

abbrev pub cancel_causes : Tables → Cancellation → List Cause
cancel_causes t e = (ltb e.time (time t), TimeBelowLedger) ∷ (not (any (is_cancelled e) (resting t)), NoSuchOrder) ∷ []

abbrev pub day_limits_causes : Tables → NewDayLimits → List Cause
day_limits_causes t e = (not (is_open t e.contract), ContractNotOpen e.contract) ∷ []

abbrev pub proposal_causes : Tables → List Leg → List Cause
proposal_causes t legs = (not (acceptable t legs), NotAcceptable) ∷ (run_would_pass t (proposal_lines t legs), TotalPassed) ∷ []

abbrev pub default_causes : Tables → ℕ → List Cause
default_causes t m = (defaulted t m, MemberDefaulted m) ∷ []

abbrev pub close_out_causes : Tables → CloseOutTerms → List Cause
close_out_causes t e =
    let c = e.contract in
    (not (is_open t c), ContractNotOpen c)
    ∷ (eqb (ggf t c) 0, NoReferencePrice)
    ∷ (eqb (sum_of (defaulted_longs t c) + sum_of (defaulted_shorts t c)) 0, NoDefaultedLots)
    ∷ (ltb 0 (lots_remaining t c) && eqb (sum_of (weights t e)) 0, NoTaker)
    ∷ (run_would_pass t (close_out_lines t e), TotalPassed)
    ∷ []

abbrev pub close_causes : Tables → ℕ → List Cause
close_causes t s = (ltb s (time t), TimeBelowLedger) ∷ (not (has_next_day t), NoLaterDay) ∷ []

abbrev pub kind_causes : Tables → Event → List Leg → List Cause
kind_causes t (Submit e) legs = submit_causes t e
kind_causes t (Cancel e) legs = cancel_causes t e
kind_causes t (DayLimits e) legs = day_limits_causes t e
kind_causes t (Proposal n) legs = proposal_causes t legs
kind_causes t (Default m) legs = default_causes t m
kind_causes t (CloseOut e) legs = close_out_causes t e
kind_causes t (CloseOfDay s) legs = close_causes t s

-- ---- what each kind books where no cause holds
-- That order goes from the table.
abbrev pub cancel_booked : Tables → Cancellation → Outcome Tables
cancel_booked t e = booked [] (with_orders (kept (λ o. not (is_cancelled e o)) (orders t)) (timed e.time t))

-- Low and high stand until a record changes them; orders already resting stay.
abbrev pub day_limits_booked : Tables → NewDayLimits → Outcome Tables
day_limits_booked t e = booked [] (with_prices (with_day_limits e.contract e.low.0 e.high.0 t.prices) t)

abbrev pub kind_booked : Tables → Event → List Leg → Outcome Tables
kind_booked t (Submit e) legs = submit_booked t e
kind_booked t (Cancel e) legs = cancel_booked t e
kind_booked t (DayLimits e) legs = day_limits_booked t e
kind_booked t (Proposal n) legs = proposal_booked t legs
kind_booked t (Default m) legs = default_booked t m
kind_booked t (CloseOut e) legs = close_out_booked t e
kind_booked t (CloseOfDay s) legs = close_booked t s

-- ---- a record of any kind
unfoldable pub event_spec : Tables → Event → List Leg → Outcome Tables
event_spec t e legs = decide (kind_causes t e legs) t (kind_booked t e legs)

-- The same of one kind, as the code of that kind promises it.
unfoldable pub submit_spec : Tables → Submission → Outcome Tables
submit_spec t e = decide (submit_causes t e) t (submit_booked t e)

unfoldable pub cancel_spec : Tables → Cancellation → Outcome Tables
cancel_spec t e = decide (cancel_causes t e) t (cancel_booked t e)

unfoldable pub day_limits_spec : Tables → NewDayLimits → Outcome Tables
day_limits_spec t e = decide (day_limits_causes t e) t (day_limits_booked t e)

unfoldable pub proposal_spec : Tables → List Leg → Outcome Tables
proposal_spec t legs = decide (proposal_causes t legs) t (proposal_booked t legs)

unfoldable pub default_spec : Tables → ℕ → Outcome Tables
default_spec t m = decide (default_causes t m) t (default_booked t m)

unfoldable pub close_out_spec : Tables → CloseOutTerms → Outcome Tables
close_out_spec t e = decide (close_out_causes t e) t (close_out_booked t e)

unfoldable pub close_spec : Tables → ℕ → Outcome Tables
close_spec t s = decide (close_causes t s) t (close_booked t s)

-- ---- a call
unfoldable pub reading_spec : Tables → Option Event → List Leg → Outcome Tables
reading_spec t (Some e) legs = event_spec t e legs
reading_spec t None legs = record { answer = Err RecordUnsound; after = t }

-- One record applied to the lent tables, whatever they hold and whatever its bytes.
unfoldable pub apply_spec : Tables → List ℕ → Outcome Tables
apply_spec t bytes =
    decide ((unsound t, TableUnsound) ∷ []) t (reading_spec t (read_of (members t) bytes) (legs_of bytes))

-- Making a ledger: 1 before 2, and of 1 only length is tested. It is lent no line table.
unfoldable pub make_spec : Tables → List ℕ → Outcome Tables
make_spec t bytes =
    decide ((ledger_short t, TableUnsound) ∷ (not (begins_with_header bytes), HeaderUnsound) ∷ []) t
    (record { answer = Ok 0; after = fresh (header_of bytes) t })
