-- Lines of a close-out, and tables with several lines booked one after the other.
use Rattle.std.specs.Prelude.{ℕ, suc, ◌+◌, ◌<◌, ◌≡◌, cond, ltb, ℤ, pos, neg_ℤ, ◌-ℤ◌, length}
use mathlib.Core.List.{List, [], ◌∷◌, ◌++◌, map, zip_with}
use Rattle.rules.specs.Default.{sum_of, given_up, less, change_lines, dealt_out, defaulted_longs, defaulted_shorts, smaller_total, lots_remaining}
use Rattle.rules.specs.Ledger.{Tables, Line, with_head, with_rows}
use Rattle.deal_lines.specs.Lines.{with_line}
use Rattle.dealing.specs.Levels.{most_weight, MemberColumn}

-- Lines booked one after the other, the first as line i.
unfoldable pub with_each : ℕ → List Line → Tables → Tables
with_each i [] t = t
with_each i (l ∷ ls) t = with_each (suc i) ls (with_line i l t)

-- What each member gains less what it gives up.
abbrev pub changes : List ℕ → List ℕ → List ℤ
changes gains losses = zip_with (λ s l. pos s -ℤ pos l) gains losses

-- The lines of step 1, of the defaulted in step 2 and of the takers in step 2: contract c at price p, q lots netted and l remaining.
unfoldable pub netting_lines : ℕ → ℕ → ℕ → List ℕ → List ℕ → List Line
netting_lines c p q longs shorts = change_lines c p 0 (changes (given_up q shorts) (given_up q longs))

unfoldable pub defaulted_lines : ℕ → ℕ → ℕ → List ℕ → List ℕ → List Line
defaulted_lines c p q longs shorts = change_lines c p 0 (changes (less shorts (given_up q shorts)) (less longs (given_up q longs)))

unfoldable pub taker_lines : ℕ → ℕ → ℕ → ℕ → List ℕ → List Line
taker_lines c p long l weights = change_lines c p 0 (map (λ n. cond (ltb 0 long) (pos n) (neg_ℤ (pos n))) (dealt_out l weights))

unfoldable pub step_lines : ℕ → ℕ → ℕ → ℕ → List ℕ → List ℕ → List ℕ → List Line
step_lines c p q l longs shorts weights =
    netting_lines c p q longs shorts ++ (defaulted_lines c p q longs shorts ++ taker_lines c p (sum_of (less longs (given_up q longs))) l weights)

-- What the defaulted have in contract c, by head and lots: their longs and shorts by member, q lots netted, l remaining.
pub record Defaulted (head : List ℕ) (lots : List ℤ) (c q l : ℕ) (longs shorts : List ℕ) : Type 0 where
  pub longs_are : (t : Tables) (v : List ℤ) → defaulted_longs (with_head head (with_rows lots v t)) c ≡ longs
  pub shorts_are : (t : Tables) (v : List ℤ) → defaulted_shorts (with_head head (with_rows lots v t)) c ≡ shorts
  pub netted : (t : Tables) (v : List ℤ) → smaller_total (with_head head (with_rows lots v t)) c ≡ q
  pub remaining : (t : Tables) (v : List ℤ) → lots_remaining (with_head head (with_rows lots v t)) c ≡ l

-- Columns of a close-out: q lots are netted, l are remaining, and there are weights to deal them out by.
pub record Dealable (q l members : ℕ) (longs shorts weights : List ℕ) : Type 0 where
  pub longs_length : length longs ≡ members
  pub shorts_length : length shorts ≡ members
  pub weights_length : length weights ≡ members
  pub longs_column : MemberColumn most_weight longs
  pub weights_column : MemberColumn most_weight weights
  pub remaining : l ≡ sum_of (less longs (given_up q longs)) + sum_of (less shorts (given_up q shorts))
  pub takers : 0 < l → 0 < sum_of weights
