-- Document 01, "Synthetic matching": more proposals that are accepted beside those that are not, computed.
use Rattle.std.specs.Prelude.{◌≡◌, refl, [], ◌∷◌, map, pos, negsuc}
use Rattle.rules.specs.declared.order.Side.TheVariants.{Buy, Sell}
use Rattle.rules.specs.Ledger.{orders, with_accepted_submits, with_lots_run, with_orders}
use Rattle.rules.specs.Refusals.{apply_spec}
use Rattle.rules.specs.Computed.{printed, tables_after, computed}
use Rattle.rules.specs.ExampleRecords.{limits, proposal, monday, in_head, order, line, accepted, refused, Each, EachPrints}
use Rattle.rules.specs.ProposalExamples.{ones, quarter_by, four_lines, used_in_part}

-- From the sell order's price to the buy order's.
prices_of_legs : EachPrints (quarter_by 0 1)
    ((ones 31199 31199 31199 31199, refused 13)
    ∷ (ones 31200 31200 31200 31200, four_lines 31200)
    ∷ (ones 31500 31500 31500 31500, four_lines 31500)
    ∷ (ones 31501 31501 31501 31501, refused 13)
    ∷ [])
unfolding computed
prices_of_legs = refl

-- Numbers rise, each names a resting order with its lots, and every hour balances.
which_legs : EachPrints (quarter_by 0 1)
    ((proposal ((1, 1, 31300) ∷ (0, 1, 31300) ∷ (2, 1, 31300) ∷ (3, 1, 31300) ∷ []), refused 13)
    ∷ (proposal ((0, 1, 31300) ∷ (0, 1, 31300) ∷ (1, 2, 31300) ∷ (2, 2, 31300) ∷ (3, 2, 31300) ∷ []), refused 13)
    ∷ (proposal ((0, 1, 31300) ∷ (1, 1, 31300) ∷ (2, 1, 31300) ∷ (3, 1, 31300) ∷ (9, 1, 31300) ∷ []), refused 13)
    ∷ (proposal ((0, 4, 31300) ∷ (1, 4, 31300) ∷ (2, 4, 31300) ∷ (3, 4, 31300) ∷ []), refused 13)
    ∷ (proposal ((0, 1, 31300) ∷ (1, 1, 31300) ∷ (2, 1, 31300) ∷ []), refused 13)
    ∷ [])
unfolding computed
which_legs = refl

-- One member is not enough, nor one contract.
two_members_lem : Each (λ m. printed (apply_spec (quarter_by m 1) (ones 31300 31300 31300 31300))) ((0, four_lines 31300) ∷ (1, refused 13) ∷ [])
unfolding computed
two_members_lem = refl

two_contracts : EachPrints (with_orders (order 0 0 17 Buy 30000 1 369 0 ∷ order 1 1 17 Sell 30000 1 369 0 ∷ []) (in_head (with_accepted_submits 2) monday))
    ((proposal ((0, 1, 30000) ∷ (1, 1, 30000) ∷ []), refused 13) ∷ [])
unfolding computed
two_contracts = refl

-- A lot bought at 60000 is not two lots sold at 30000, though the value is the same.
lots_of_legs : EachPrints
    (with_orders
    (order 0 0 18 Buy 60000 2 369 0 ∷ order 1 1 22 Sell 30000 2 369 0 ∷ order 2 1 23 Sell 30000 2 369 0 ∷ order 3 1 24 Sell 30000 2 369 0 ∷ [])
    (in_head (with_accepted_submits 4) monday))
    ((proposal ((0, 1, 60000) ∷ (1, 2, 30000) ∷ (2, 2, 30000) ∷ (3, 2, 30000) ∷ []), refused 13)
    ∷ (ones 30000 30000 30000 30000, four_lines 30000)
    ∷ [])
unfolding computed
lots_of_legs = refl

-- Its four lines count in the lots run.
run_of_legs : Each (λ run. printed (apply_spec (in_head (with_lots_run run) (quarter_by 0 1)) (ones 31300 31300 31300 31300)))
    ((4999996, four_lines 31300) ∷ (4999997, refused 17) ∷ [])
unfolding computed
run_of_legs = refl

-- A low of 31300 for the quarter that is bought.
lows_of_legs : EachPrints (tables_after (quarter_by 0 1) (limits 18 31300 1000000 ∷ []))
    ((ones 31299 31299 31299 31299, refused 13) ∷ (ones 31300 31300 31300 31300, four_lines 31300) ∷ [])
unfolding computed
lows_of_legs = refl

-- A leg in part is not in full: order 4 may be a leg only where all of order 3 is.
legs_in_full : EachPrints (quarter_by 0 1)
    ((proposal ((0, 2, 31300) ∷ (1, 2, 31300) ∷ (2, 2, 31300) ∷ (3, 1, 31300) ∷ (4, 1, 31300) ∷ []), refused 13)
    ∷ (
      proposal ((0, 3, 31300) ∷ (1, 3, 31300) ∷ (2, 3, 31300) ∷ (3, 2, 31300) ∷ (4, 1, 31300) ∷ []),
      accepted (line 0 18 (pos 3) 31300 ∷ line 1 22 (negsuc 2) 31300 ∷ line 1 23 (negsuc 2) 31300 ∷ line 1 24 (negsuc 1) 31300 ∷ line 1 24 (negsuc 0) 31300 ∷ []),
    )
    ∷ [])
unfolding computed
legs_in_full = refl

-- What is left rests with its number: number and lots of each order.
after_a_proposal : map (λ o. o.number ∷ o.lots.0 ∷ []) (orders used_in_part.after)
    ≡ (0 ∷ 1 ∷ []) ∷ (1 ∷ 1 ∷ []) ∷ (2 ∷ 1 ∷ []) ∷ (4 ∷ 2 ∷ []) ∷ []
unfolding computed
after_a_proposal = refl
