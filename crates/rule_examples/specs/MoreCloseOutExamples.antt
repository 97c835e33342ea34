-- Document 01, "Default": more close-outs of contract 17, a year of 365 days with the GGF 26000, computed.
use Rattle.std.specs.Prelude.{◌≡◌, refl, [], ◌∷◌, pos, negsuc}
use Rattle.rules.specs.Ledger.{day_lots}
use Rattle.rules.specs.Refusals.{apply_spec}
use Rattle.rules.specs.Computed.{computed}
use Rattle.rules.specs.ExampleRecords.{buy, sell, default, close_out, close, monday, with_defaulted, held, line, bought, accepted, refused, Prints}
use Rattle.rules.specs.CloseOutExamples.{lent, closed_out, two}

-- At 501 members 1 and 2 weigh one each, their lots here, and the lower number comes first.
ratio_missed : closed_out (0 ∷ 3 ∷ 4 ∷ []) two 501 ≡ accepted (line 0 17 (negsuc 0) 26000 ∷ line 1 17 (pos 1) 26000 ∷ [])
unfolding computed closed_out lent held with_defaulted
ratio_missed = refl

-- Days count: 10 lots of a month, 310, weigh less than one of a year, 365. January 2021, which has closed, and the year
-- 2026, which is not open yet, weigh nothing.
days_of_open_contracts : closed_out (0 ∷ []) ((0, 17, pos 1) ∷ (1, 22, pos 10) ∷ (1, 5, pos 100) ∷ (1, 85, pos 100) ∷ (2, 17, negsuc 0) ∷ []) 1000
    ≡ accepted (line 0 17 (negsuc 0) 26000 ∷ line 2 17 (pos 1) 26000 ∷ [])
unfolding computed closed_out lent held with_defaulted
days_of_open_contracts = refl

-- L = 4 by lots here, 1, 5 and 1: minimums 1, 3 and 1; received, one lot each in turn, 1, 2 and 1.
in_turns : closed_out (0 ∷ []) ((0, 17, pos 4) ∷ (1, 17, negsuc 0) ∷ (2, 17, negsuc 4) ∷ (3, 17, pos 1) ∷ []) 1000
    ≡ accepted (line 0 17 (negsuc 3) 26000 ∷ line 1 17 (pos 1) 26000 ∷ line 2 17 (pos 2) 26000 ∷ line 3 17 (pos 1) 26000 ∷ [])
unfolding computed closed_out lent held with_defaulted
in_turns = refl

-- Nobody else has lots in it: who has other open lots takes them. Nobody has: 16.
taker_from_elsewhere : closed_out (0 ∷ []) ((0, 17, negsuc 1) ∷ (4, 22, pos 1) ∷ []) 1000
    ≡ accepted (line 0 17 (pos 2) 26000 ∷ line 4 17 (negsuc 1) 26000 ∷ [])
unfolding computed closed_out lent held with_defaulted
taker_from_elsewhere = refl

no_taker : closed_out (0 ∷ 4 ∷ []) ((0, 17, negsuc 1) ∷ (4, 22, pos 1) ∷ (1, 5, pos 1) ∷ []) 1000 ≡ refused 16
unfolding computed closed_out lent held with_defaulted
no_taker = refl

-- As in netting, with a short left over.
netting_of_shorts : closed_out (0 ∷ 1 ∷ 2 ∷ []) ((0, 17, negsuc 2) ∷ (1, 17, negsuc 2) ∷ (2, 17, pos 4) ∷ (4, 17, negsuc 6) ∷ []) 1000
    ≡ accepted
    (line 0 17 (pos 3) 26000 ∷ line 1 17 (pos 1) 26000 ∷ line 2 17 (negsuc 3) 26000 ∷ line 1 17 (pos 2) 26000 ∷ line 4 17 (negsuc 1) 26000 ∷ [])
unfolding computed closed_out lent held with_defaulted
netting_of_shorts = refl

-- Two defaulted members give up what is left of them in step 2, 1 and 3 lots, the lower first; then the takers, who weigh 365 and
-- three times that.
two_give_up : closed_out (0 ∷ 1 ∷ 2 ∷ []) ((0, 17, pos 2) ∷ (1, 17, negsuc 0) ∷ (2, 17, pos 3) ∷ (3, 17, negsuc 0) ∷ (4, 17, negsuc 2) ∷ []) 1000
    ≡ accepted
    (line 0 17 (negsuc 0) 26000 ∷ line 1 17 (pos 1) 26000
    ∷ line 0 17 (negsuc 0) 26000 ∷ line 2 17 (negsuc 2) 26000 ∷ line 3 17 (pos 1) 26000 ∷ line 4 17 (pos 3) 26000 ∷ [])
unfolding computed closed_out lent held with_defaulted
two_give_up = refl

-- Defaulted lots that net to zero are no 15: step 1 alone, though there is no taker. Lots elsewhere are 15.
netting_to_zero : closed_out (0 ∷ 1 ∷ []) ((0, 17, pos 5) ∷ (1, 17, negsuc 4) ∷ []) 1000
    ≡ accepted (line 0 17 (negsuc 4) 26000 ∷ line 1 17 (pos 5) 26000 ∷ [])
unfolding computed closed_out lent held with_defaulted
netting_to_zero = refl

no_defaulted_lots : closed_out (0 ∷ []) ((0, 18, pos 5) ∷ (1, 17, negsuc 4) ∷ []) 1000 ≡ refused 15
unfolding computed closed_out lent held with_defaulted
no_defaulted_lots = refl

-- The lots of a close-out do not count in M: it stays 10.
default_lots : day_lots (apply_spec (lent (0 ∷ []) two) (close_out 17 500)).after 17 ≡ 10
unfolding computed lent held with_defaulted
default_lots = refl

-- ---- from the deals, at 26000 and 28000, to the close-out: the price is the day's GGF
from_deal_to_close_out : Prints monday
    ((sell 0 17 26000 6, accepted [])
    ∷ (sell 0 17 28000 4, accepted [])
    ∷ (buy 1 17 26000 6, accepted (bought 1 0 17 6 26000))
    ∷ (buy 2 17 29000 4, accepted (bought 2 0 17 4 28000))
    ∷ (close_out 17 1000, refused 14)
    ∷ (close 61200, accepted [])
    ∷ (close_out 17 1000, refused 15)
    ∷ (default 0, accepted [])
    ∷ (close_out 17 1000, accepted (line 0 17 (pos 10) 26800 ∷ line 1 17 (negsuc 5) 26800 ∷ line 2 17 (negsuc 3) 26800 ∷ []))
    ∷ [])
unfolding computed
from_deal_to_close_out = refl
