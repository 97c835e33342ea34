use Rattle.std.proofs.Common.{sym, lt-ltb, le-leb}
use Rattle.arith.specs.Lists.{all_of}
use Rattle.arith.proofs.Tests.{and_true, tests, asked_true, asked_false}
use Rattle.damage.specs.Orders.{fields_in_range}
use Rattle.damage.proofs.book.are_fields_in_range.Goals as goal

pub returns-then-members-book : goal.returns-then-members-book
unfolding fields_in_range all_of
returns-then-members-book c = search tests

pub returns-then-book-at-gt-LAST_CONTRACT : goal.returns-then-book-at-gt-LAST_CONTRACT
unfolding fields_in_range all_of
returns-then-book-at-gt-LAST_CONTRACT c = search tests

pub returns-then-not-is_between : goal.returns-then-not-is_between
unfolding fields_in_range all_of
returns-then-not-is_between c = rw (asked_false c.is_between.ensures c.if-not-is_between.true) (search tests)

pub returns-then-not-is_between-2 : goal.returns-then-not-is_between-2
unfolding fields_in_range all_of
returns-then-not-is_between-2 c =
    rw (asked_true c.is_between.ensures c.if-not-is_between.false, asked_false c.is_between-2.ensures c.if-not-is_between-2.true) (search tests)

pub returns-then-not-is_between-3 : goal.returns-then-not-is_between-3
unfolding fields_in_range all_of
returns-then-not-is_between-3 c =
    rw (asked_true c.is_between.ensures c.if-not-is_between.false, asked_true c.is_between-2.ensures c.if-not-is_between-2.false, asked_false c.is_between-3.ensures c.if-not-is_between-3.true) (search tests)

pub returns : goal.returns
unfolding fields_in_range all_of
returns c =
    let price = asked_true c.is_between.ensures c.if-not-is_between.false in
    let lots = asked_true c.is_between-2.ensures c.if-not-is_between-2.false in
    let day = asked_true c.is_between-3.ensures c.if-not-is_between-3.false in
    rw (lt-ltb _ _ c.if-members-book.false, le-leb _ _ c.if-book-at-gt-LAST_CONTRACT.false, price, lots, day) (sym (and_true _))
