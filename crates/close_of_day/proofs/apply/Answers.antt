use Rattle.rules.specs.Ledger.{time_place}
use Rattle.rules.specs.Ledger.{with_head, with_prices, with_rows, with_book}
use Rattle.close_of_day.proofs.Closes.{close_last, close_next}
use mathlib.Core.Path.{◌≡◌, sym, ◌∙◌}
use Prim.Native.Nat.{◌+◌, ◌-◌}
use native.Mathlib.Omega.{arith}
use lib.ListN.{get_or}
use borrow.Author.Tests.{lt-ltb}
use Rattle.rules.specs.Refusals.{close_spec}
use Rattle.close_of_day.proofs.apply.Goals as goal

pub returns-then-time-head : goal.returns-then-time-head
unfolding close_spec
returns-then-time-head c = λ t. rw (lt-ltb c.args.time (get_or c.args.head.now time_place 0) c.if-time-head.true)

pub returns-in-Some : goal.returns-in-Some
returns-in-Some c =
    let a = c.args in
    let h = a.head.now in
    let cut : 8 + get_or h 2 0 - 8 ≡ get_or h 2 0 = omega arith in
    let found = rw cut at (sym c.next_business_day.ensures ∙ c.in-Some.is) in
    λ t.
    let u = with_head h (with_prices a.prices.now (with_rows a.lots.now a.value.now (with_book a.book.now t))) in
    rw (c.close.ensures t) (sym (close_next u a.time _ c.if-time-head.false found))

pub returns-in-None : goal.returns-in-None
returns-in-None c =
    let a = c.args in
    let h = a.head.now in
    let cut : 8 + get_or h 2 0 - 8 ≡ get_or h 2 0 = omega arith in
    let none = rw cut at (sym c.next_business_day.ensures ∙ c.in-None.is) in
    λ t.
    let u = with_head h (with_prices a.prices.now (with_rows a.lots.now a.value.now (with_book a.book.now t))) in
    sym (close_last u a.time c.if-time-head.false none)
