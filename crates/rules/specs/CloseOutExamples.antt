-- Document 01, "Default": close-outs of contract 17, a year of 365 days with the GGF 26000, computed.
use Rattle.std.specs.Prelude.{ℕ, ◌≡◌, refl, List, [], ◌∷◌, map, ℤ, pos, negsuc}
use Rattle.rules.specs.ContractTerms.{days_of}
use Rattle.rules.specs.Ledger.{Tables, with_lots_run, with_ggf, with_dealt}
use Rattle.rules.specs.Refusals.{apply_spec}
use Rattle.rules.specs.Computed.{Printed, printed, computed}
use Rattle.rules.specs.ExampleRecords.{close_out, made, in_head, in_prices, with_defaulted, held, line, accepted}

-- How many days contracts of a ledger from 2020 on deliver: the years 2020 and 2021, quarters and months of each
-- length, the last month, and number 102, which is no contract.
days_delivered : map (days_of (record { first_year = 2020; holidays = [] })) (0 ∷ 17 ∷ 1 ∷ 2 ∷ 3 ∷ 18 ∷ 5 ∷ 6 ∷ 23 ∷ 8 ∷ 101 ∷ 102 ∷ [])
    ≡ 366 ∷ 365 ∷ 91 ∷ 91 ∷ 92 ∷ 90 ∷ 31 ∷ 29 ∷ 28 ∷ 30 ∷ 31 ∷ 0 ∷ []
unfolding computed
days_delivered = refl

-- Monday, 369, five members: these have defaulted, and these lots are held. The GGF is 26000; the day's deals were at 28000.
unfoldable pub lent : List ℕ → List (ℕ × ℕ × ℤ) → Tables
lent ms xs = held xs (with_defaulted ms (in_prices (with_ggf 17 26000) (in_prices (with_dealt 17 10 280000) (in_head (with_lots_run 1000) (made 2021 369 [] (0 ∷ 0 ∷ 0 ∷ 0 ∷ 0 ∷ []))))))

-- What the close-out of contract 17 with that ratio prints.
unfoldable pub closed_out : List ℕ → List (ℕ × ℕ × ℤ) → ℕ → Printed
closed_out ms xs ratio = printed (apply_spec (lent ms xs) (close_out 17 ratio))

-- L = 1 and t = 2. Each has one lot here. By days times lots member 1 weighs 365 and 10 times 31, 675, member 2 two times 365,
-- 730. Members 3 and 4 have defaulted and take nothing.
abbrev pub two : List (ℕ × ℕ × ℤ)
two = (0, 17, pos 1) ∷ (1, 17, negsuc 0) ∷ (1, 22, pos 10) ∷ (2, 17, negsuc 0) ∷ (2, 34, pos 1) ∷ (3, 34, pos 9) ∷ []

-- At a ratio of 500 days count, and member 2 takes the lot.
ratio_met : closed_out (0 ∷ 3 ∷ 4 ∷ []) two 500 ≡ accepted (line 0 17 (negsuc 0) 26000 ∷ line 2 17 (pos 1) 26000 ∷ [])
unfolding computed closed_out lent held with_defaulted
ratio_met = refl

-- L = 3 by lots here, 1, 1, 1 and 3: minimums 1, 1, 1 and 2. The larger minimum comes first, so that the turns end before
-- member 3's.
larger_minimum_first : closed_out (0 ∷ []) ((0, 17, pos 3) ∷ (1, 17, negsuc 0) ∷ (2, 17, negsuc 0) ∷ (3, 17, pos 1) ∷ (4, 17, negsuc 2) ∷ []) 1000
    ≡ accepted (line 0 17 (negsuc 2) 26000 ∷ line 1 17 (pos 1) 26000 ∷ line 2 17 (pos 1) 26000 ∷ line 4 17 (pos 1) 26000 ∷ [])
unfolding computed closed_out lent held with_defaulted
larger_minimum_first = refl

-- Step 1, the lowest member first on each side; step 2, what is left of member 2. Member 4, whose lots are of that side, takes it.
netting : closed_out (0 ∷ 1 ∷ 2 ∷ 3 ∷ []) ((0, 17, negsuc 2) ∷ (1, 17, pos 3) ∷ (2, 17, pos 3) ∷ (3, 17, negsuc 0) ∷ (4, 17, pos 7) ∷ []) 1000
    ≡ accepted
    (line 0 17 (pos 3) 26000 ∷ line 1 17 (negsuc 2) 26000 ∷ line 2 17 (negsuc 0) 26000 ∷ line 3 17 (pos 1) 26000
    ∷ line 2 17 (negsuc 1) 26000 ∷ line 4 17 (pos 2) 26000 ∷ [])
unfolding computed closed_out lent held with_defaulted
netting = refl
