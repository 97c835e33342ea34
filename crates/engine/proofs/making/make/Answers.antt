use mathlib.Core.Path.{sym, ◌∙◌}
use mathlib.Core.List.{[]}
use Rattle.rules.specs.Refusals.{make_spec}
use Rattle.rules.specs.Ledger.{lent, with_book, with_lines, zero_tables}
use Rattle.rules.proofs.SoundTables.{long_enough}
use Rattle.header.proofs.Readings.{none_read, begins, few_holidays, few_members, holiday_most, limit_most, as_listed}
use Rattle.engine.proofs.making.make.Goals as goal

pub returns-then-is_ledger_short : goal.returns-then-is_ledger_short
unfolding make_spec
returns-then-is_ledger_short c = λ n. rw (sym (c.is_ledger_short.ensures (with_lines n zero_tables)) ∙ c.if-is_ledger_short.true)

pub returns-in_default : goal.returns-in_default
unfolding make_spec
returns-in_default c =
    λ n. rw (sym (c.is_ledger_short.ensures (with_lines n zero_tables)) ∙ c.if-is_ledger_short.false, none_read c.args.bytes.now c.in_default.ensures)

pub shared_ref_as_front-write_fresh : goal.shared_ref_as_front-write_fresh
shared_ref_as_front-write_fresh c = few_holidays c.args.bytes.now _ c.in-Some.ensures

pub shared_ref_as_front-write_fresh-2 : goal.shared_ref_as_front-write_fresh-2
shared_ref_as_front-write_fresh-2 c = few_members c.args.bytes.now _ c.in-Some.ensures

pub write_fresh-requires : goal.write_fresh-requires
write_fresh-requires c =
    let a = c.args in
    let s = a.bytes.now in
    let r = c.in-Some.ensures in
    let w = long_enough (lent a.head.now a.prices.now a.lots.now a.value.now a.book.now []) (sym (c.is_ledger_short.ensures (with_lines [] zero_tables)) ∙ c.if-is_ledger_short.false) in
    record { head_length_in_bounds = (w.head, w.prices, w.lots, w.value); holidays_len_bound = (holiday_most s _ r, limit_most s _ r) }

pub returns : goal.returns
unfolding make_spec
returns c =
    let a = c.args in
    let s = a.bytes.now in
    let r = c.in-Some.ensures in
    λ n. rw (sym (c.is_ledger_short.ensures (with_lines n zero_tables)) ∙ c.if-is_ledger_short.false, begins s _ r, c.write_fresh.ensures (with_book a.book.now (with_lines n zero_tables)), as_listed s _ r)
