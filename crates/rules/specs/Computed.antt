-- What apply_spec answers and leaves, computed: a call, and a list of records.
use Rattle.std.specs.Prelude.{ℕ}
use mathlib.Core.List.{List, [], ◌∷◌, flat_map, zip_with}
use Rattle.arith.specs.Ints.{up, dn}
use Rattle.arith.specs.Lists.{every, any, kept, how_many, total, over, every_block, in_each_block, all_of, from, count}
use Rattle.rules.specs.Answers.{Outcome, Reply, reply_of}
use Rattle.rules.specs.Days.{leap_year, month_days, year_start, month_length, month_start, business_day, span_start, day_after_span, in_span, first_business_day, next_business_day, business_day_before}
use Rattle.rules.specs.ContractTerms.{term_of, contracts_of, children_of, term_first_day, term_day_after, days_of, holds_day, holds_hour, term_closing_day, still_to_close, open_of_kind}
use Rattle.rules.specs.ContractTerms.{open_contracts, open_on, has_cascaded}
use Rattle.rules.specs.Header.{u16_at, u32_at, u16_bytes, u32_bytes, u16s_at, u32s_at, same_bytes, header_length, header_of, header_bytes, rising, calendar_sound, day_sound, header_sound, begins_with_header}
use Rattle.rules.specs.Ledger.{Tables, Line, is_open, orders, with_orders, first_lines, posted, line_run, booked, without_submits, timed, ledger_short}
use Rattle.rules.specs.Ledger.{lines_short, fresh_head, fresh_prices, fresh_rows, fresh}
use Rattle.rules.specs.Records.{record_length, event_sound, field_bytes, bytes_of, write_spec, fields_by_kind, fields_of, legs_of, read_of}
use Rattle.rules.specs.Matching.{precedes, best, opposes, meets, used, matching, matched, submit_matched, submit_lines, would_rest, submits_at, resting_lots, above_limit}
use Rattle.rules.specs.Matching.{submit_orders, with_deals, counted, submit_booked}
use Rattle.rules.specs.Synthetic.{numbered, named_legs, price_allowed, two_occur, in_hour, balanced_in_hour, balanced, in_full, priority_kept, acceptable, proposal_lines, used_by_legs, proposal_booked}
use Rattle.rules.specs.CloseOfDay.{entered_before, quotes, best_quote, ggf_at_close, with_ggfs, without_deals, priced, added_to, zero_rows, cascaded, closing_contracts, all_cascaded}
use Rattle.rules.specs.CloseOfDay.{is_of_any, with_closed, has_next_day, next_day, on_day, close_booked}
use Rattle.rules.specs.Default.{default_booked, sum_of, defaulted_longs, defaulted_shorts, given_up, change_lines, smaller_total, netted_longs, netted_shorts, netting_changes}
use Rattle.rules.specs.Default.{longs_remaining, shorts_remaining, lots_remaining, others_lots, open_weight, weights, minimum, minimums, comes_first, placed, in_order, turn, round, rounds}
use Rattle.rules.specs.Default.{dealt_out, taken, defaulted_changes, taker_changes, close_out_lines, close_out_booked}
use Rattle.rules.specs.Refusals.{every_row, rows_sound, contract_prices_sound, prices_sound, member_sound, head_sound, order_sound, distinct, sides_sound, book_sound, damaged, ledger_unsound, unsound}
use Rattle.rules.specs.Refusals.{submit_spec, cancel_spec, day_limits_spec, proposal_spec, default_spec, close_out_spec, close_spec, event_spec, reading_spec, apply_spec, make_spec}
use Rattle.rules.specs.Accounts.{lines_of}

-- What a call prints: its answer and the deal lines.
pub record Printed : Type 0 where
  pub answer : Reply
  pub lines : List Line

unfoldable pub printed : Outcome Tables → Printed
printed o = record { answer = reply_of o.answer; lines = lines_of o.answer o.after.lines }

unfoldable pub all_printed : Tables → List (List ℕ) → List Printed
all_printed t [] = []
all_printed t (r ∷ rs) = let o = apply_spec t r in printed o ∷ all_printed o.after rs

unfoldable pub tables_after : Tables → List (List ℕ) → Tables
tables_after t [] = t
tables_after t (r ∷ rs) = tables_after (apply_spec t r).after rs

-- `unfolding computed` opens every definition of the rules, so that what they say of a list computes.
unfoldable pub computed : {A : Type 0} → A → A
unfolding up dn every any kept how_many total over every_block in_each_block all_of from count flat_map zip_with leap_year
    month_days year_start month_length month_start business_day span_start day_after_span in_span first_business_day
    next_business_day business_day_before term_of contracts_of children_of term_first_day term_day_after days_of holds_day
    holds_hour term_closing_day still_to_close open_of_kind open_contracts open_on has_cascaded u16_at u32_at u16_bytes u32_bytes
    u16s_at u32s_at same_bytes header_length header_of header_bytes rising calendar_sound day_sound header_sound
    begins_with_header is_open orders with_orders first_lines posted line_run booked without_submits timed ledger_short
    lines_short fresh_head fresh_prices fresh_rows fresh record_length event_sound field_bytes bytes_of write_spec fields_by_kind
    fields_of legs_of read_of precedes best opposes meets used matching matched submit_matched submit_lines would_rest
    submits_at resting_lots above_limit submit_orders with_deals counted submit_booked numbered named_legs price_allowed
    two_occur in_hour balanced_in_hour balanced in_full priority_kept acceptable proposal_lines used_by_legs proposal_booked
    entered_before quotes best_quote ggf_at_close with_ggfs without_deals priced added_to zero_rows cascaded closing_contracts
    all_cascaded is_of_any with_closed has_next_day next_day on_day close_booked default_booked sum_of defaulted_longs
    defaulted_shorts given_up change_lines smaller_total netted_longs netted_shorts netting_changes longs_remaining shorts_remaining
    lots_remaining others_lots open_weight weights minimum minimums comes_first placed in_order turn round rounds dealt_out taken
    defaulted_changes taker_changes close_out_lines close_out_booked every_row rows_sound contract_prices_sound prices_sound
    member_sound head_sound order_sound distinct sides_sound book_sound damaged ledger_unsound unsound submit_spec cancel_spec day_limits_spec
    proposal_spec default_spec close_out_spec close_spec event_spec reading_spec apply_spec make_spec printed all_printed
    tables_after
computed a = a
