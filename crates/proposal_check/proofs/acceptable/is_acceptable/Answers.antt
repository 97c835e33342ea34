use native.Mathlib.Omega.{arith}
use mathlib.Core.Path.{◌≡◌, refl, sym, ◌∙◌}
use mathlib.Core.Bool.{Bool}
use mathlib.Core.List.{List}
use Prim.Native.Nat.{ℕ}
use lib.Dec.{ltb}
use Rattle.std.specs.List.{list_all}
use Rattle.arith.specs.Lists.{every}
use lib.ListN.{get_or}
use Rattle.tables.specs.Fit.{order_count_in, orders_in}
use Rattle.rules.specs.Ledger.{order_count_place}
use Rattle.rules.specs.Ledger.{with_head, with_prices, with_book, orders, calendar}
use Rattle.proposal_check.proofs.Checks.{two_legs, balanced_legs, priority_legs, acceptable_not, acceptable_found, legs_found}
use Rattle.arith.proofs.Alls.{every_is_all}
use Rattle.proposal_check.proofs.LastRanks.{orders_ranked}
use Rattle.proposal_check.proofs.acceptable.is_acceptable.Goals as goal

all_found : (places : List ℕ) (count : ℕ) {found is : Bool} → found ≡ list_all (λ p. ltb p count) places → found ≡ is → every (λ p. ltb p count) places ≡ is
all_found places count e f = sym (e ∙ every_is_all (λ p. ltb p count) places) ∙ f

pub returns-then-not-are_found : goal.returns-then-not-are_found
unfolding orders
returns-then-not-are_found c =
    let a = c.args in
    λ t. sym (acceptable_not (with_head a.head.now (with_prices a.prices.now (with_book a.book.now t))) (get_or a.head.now order_count_place 0) a.book.now a.places.now
    a.legs.now refl c.requires.legs_fit.1 (all_found a.places.now _ c.are_found.ensures c.if-not-are_found.true))

pub do_two_occur-requires : goal.do_two_occur-requires
do_two_occur-requires c =
    let a = c.args in
    let found = all_found a.places.now _ c.are_found.ensures c.if-not-are_found.false in
    let f = legs_found a.head.now a.book.now a.places.now a.legs.now c.requires.head_fit.0 c.requires.head_fit.1 c.requires.legs_fit.1 found in
    (c.requires.head_fit.1.long, omega arith, omega (arith, f.as_many, c.requires.legs_fit.0.least_legs_holds), f.in_book)

pub do_two_occur-requires-2 : goal.do_two_occur-requires-2
do_two_occur-requires-2 c =
    let a = c.args in
    let found = all_found a.places.now _ c.are_found.ensures c.if-not-are_found.false in
    let f = legs_found a.head.now a.book.now a.places.now a.legs.now c.requires.head_fit.0 c.requires.head_fit.1 c.requires.legs_fit.1 found in
    (c.requires.head_fit.1.long, omega arith, omega (arith, f.as_many, c.requires.legs_fit.0.least_legs_holds), f.in_book)

pub do_numbers_rise-requires : goal.do_numbers_rise-requires
do_numbers_rise-requires c = omega (arith, c.requires.legs_fit.0.least_legs_holds)

pub are_within-requires : goal.are_within-requires
are_within-requires c =
    let a = c.args in
    let found = all_found a.places.now _ c.are_found.ensures c.if-not-are_found.false in
    let f = legs_found a.head.now a.book.now a.places.now a.legs.now c.requires.head_fit.0 c.requires.head_fit.1 c.requires.legs_fit.1 found in
    record { prices_length_in_bounds = (c.requires.head_fit.2, f.in_book, f.contracts); legs_fit = f.as_many }

pub are_both_balanced-requires : goal.are_both_balanced-requires
are_both_balanced-requires c =
    let a = c.args in
    let found = all_found a.places.now _ c.are_found.ensures c.if-not-are_found.false in
    let f = legs_found a.head.now a.book.now a.places.now a.legs.now c.requires.head_fit.0 c.requires.head_fit.1 c.requires.legs_fit.1 found in
    (f.in_book, f.contracts, c.requires.legs_fit.0, f.as_many)

pub is_priority_kept-requires : goal.is_priority_kept-requires
is_priority_kept-requires c =
    let a = c.args in
    let found = all_found a.places.now _ c.are_found.ensures c.if-not-are_found.false in
    let f = legs_found a.head.now a.book.now a.places.now a.legs.now c.requires.head_fit.0 c.requires.head_fit.1 c.requires.legs_fit.1 found in
    (orders_ranked a.head.now a.book.now c.requires.head_fit.0 c.requires.head_fit.1, f.there)

pub returns : goal.returns
unfolding orders
returns c =
    let a = c.args in
    let found = all_found a.places.now _ c.are_found.ensures c.if-not-are_found.false in
    let f = legs_found a.head.now a.book.now a.places.now a.legs.now c.requires.head_fit.0 c.requires.head_fit.1 c.requires.legs_fit.1 found in
    let book = a.book.now in
    let places = a.places.now in
    let legs = a.legs.now in
    let fit = c.requires.legs_fit.0 in
    λ t.
    let u = with_head a.head.now (with_prices a.prices.now (with_book book t)) in
    rw c.do_numbers_rise.ensures
    (acceptable_found u (order_count_in a.head.now) book places legs refl c.requires.legs_fit.1 found _ _ _ _ _
    (c.do_two_occur.ensures ∙ two_legs book places legs fit f.as_many (λ o. o.member))
    (c.do_two_occur-2.ensures ∙ two_legs book places legs fit f.as_many (λ o. o.contract))
    (c.are_within.ensures (with_head a.head.now (with_book book t)))
    (c.are_both_balanced.ensures ∙ balanced_legs book places legs fit f.as_many (calendar u))
    (c.is_priority_kept.ensures ∙ priority_legs book places legs fit f.as_many (orders_in (order_count_in a.head.now) book)))
