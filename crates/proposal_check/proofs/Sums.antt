-- The amounts of a month are those of its year, quarter and month contract. Assumes nothing.
use mathlib.Core.Path.{◌≡◌, refl, sym, ap, ◌∙◌}
use mathlib.Core.Bool.{cond, ◌&&◌, ◌||◌}
use mathlib.Core.List.{List, [], ◌∷◌}
use Prim.Native.Nat.{ℕ, ◌+◌, ◌*◌, ◌<◌, ◌≤◌}
use native.Mathlib.Omega.{arith}
use native.Mathlib.Nat.{zero-add, mul-le-mul, mul-add}
use native.Mathlib.Numerals.{add-one}
use lib.Dec.{eqb}
use lib.ListN.{length, get_or, set, replicate, length-replicate, get_or-replicate, length-set}
use lib.Seq.{get_or-set_same, get_or-set_other}
use borrow.Author.Tests.{eq-eqb, ne_eqb}
use Rattle.arith.specs.Lists.{total, from}
use Rattle.arith.proofs.Tests.{by_bool, by_eqb, same_or}
use Rattle.arith.proofs.Scans.{every_both}
use Rattle.arith.proofs.Ranges.{total_more}
use Rattle.arith.proofs.Totals.{total_plus, total_same, total_most}
use Rattle.rules.specs.declared.event.Leg.{Leg}
use Rattle.rules.specs.declared.order.Side.{Side}
use Rattle.rules.specs.declared.order.Side.TheVariants.{Buy, Sell}
use Rattle.rules.specs.Ranges.{months_in_span, most_lots, most_price}
use Rattle.rules.specs.Ledger.{order_at}
use Rattle.rules.specs.Sides.{same_side}
use Rattle.rules.specs.OtherForms.{year_of, quarter_of, month_of, holds_month}
use Rattle.proposal_check.specs.Legs.{LegsFit, no_leg, lots_of, value_of, counts_at, in_month, balanced_months}
use Rattle.proposal_check.proofs.Lists.{each_same}
use Rattle.proposal_check.proofs.SidePlaces.{side_below, place_same}
use Rattle.proposal_check.specs.SidePlaces.{side_place, side_places, side_place_of}
use Rattle.proposal_check.specs.Sums.{SumsTo, SumsFit, lot_unit, amount_of, most_amount, sum_at, month_sum, balanced_sums}

-- ---- a month's three contracts are different
one_of_three : (y q n c a : ℕ) → y < q → q < n
    → cond (eqb y c || (eqb q c || eqb n c)) a 0 ≡ cond (eqb y c) a 0 + cond (eqb q c) a 0 + cond (eqb n c) a 0
one_of_three y q n c a h k =
    same_or y c
    (λ e. rw (eq-eqb y c e, ne_eqb q c (λ f. omega arith), ne_eqb n c (λ f. omega arith)) (omega arith))
    (λ d. same_or q c (λ e. rw (ne_eqb y c d, eq-eqb q c e, ne_eqb n c (λ f. omega arith)) (omega arith))
    (λ g. rw (ne_eqb y c d, ne_eqb q c g) (by_bool (λ b. cond b a 0 ≡ 0 + 0 + cond b a 0) (eqb n c) (λ _. omega arith) (λ _. refl))))

in_order_holds : (m : ℕ) → (year_of m < quarter_of m) × (quarter_of m < month_of m)
in_order_holds m = (omega arith, omega arith)

pub months_below : (m : ℕ) → m < months_in_span → (s : Side)
    → (side_place (year_of m) s < side_places) × (side_place (quarter_of m) s < side_places) × (side_place (month_of m) s < side_places)
months_below m h s = (omega (arith, side_below s), omega (arith, side_below s), omega (arith, side_below s))

-- What a leg brings to a month it brings to one of its three places.
leg_places : (u s : Side) (c m a : ℕ)
    → cond (same_side u s && holds_month c m) a 0
    ≡ cond (eqb (side_place c u) (side_place (year_of m) s)) a 0 + cond (eqb (side_place c u) (side_place (quarter_of m) s)) a 0 + cond (eqb (side_place c u) (side_place (month_of m) s)) a 0
unfolding holds_month
leg_places u s c m a =
    rw (place_same c (year_of m) u s, place_same c (quarter_of m) u s, place_same c (month_of m) u s)
    (by_bool (λ b. cond (b && (eqb (year_of m) c || (eqb (quarter_of m) c || eqb (month_of m) c))) a 0
    ≡ cond (b && eqb (year_of m) c) a 0 + cond (b && eqb (quarter_of m) c) a 0 + cond (b && eqb (month_of m) c) a 0) (same_side u s)
    (λ _. one_of_three (year_of m) (quarter_of m) (month_of m) c a (in_order_holds m).0 (in_order_holds m).1) (λ _. refl))

-- ---- lots and value in one number
total_two : (f g : ℕ → ℕ) (l : List ℕ) → total (λ i. f i * lot_unit + g i) l ≡ total f l * lot_unit + total g l
unfolding total
total_two f g [] = refl
total_two f g (x ∷ l) = omega (arith, total_two f g l)

two_same : (a b c d : ℕ) → b < lot_unit → d < lot_unit → eqb (a * lot_unit + b) (c * lot_unit + d) ≡ eqb a c && eqb b d
two_same a b c d h k =
    let x = a * lot_unit + b in
    let y = c * lot_unit + d in
    same_or a c
    (λ e. rw (eq-eqb a c e) (by_eqb (λ t. eqb x y ≡ t) b d (λ f. eq-eqb x y (omega arith)) (λ n. ne_eqb x y (λ f. n (omega arith)))))
    (λ n. rw (ne_eqb a c n) (ne_eqb x y (λ f. n (omega arith))))

amount_two : (g : Leg) → amount_of g ≡ lots_of g * lot_unit + value_of g
unfolding amount_of
amount_two g = mul-add g.lots.0 lot_unit g.price.0

module _ (book places : List ℕ) (legs : List Leg) (fit : LegsFit legs) where
  abbrev leg : ℕ → Leg
  leg i = get_or legs i no_leg

  abbrev place_of_leg : ℕ → ℕ
  place_of_leg i = side_place_of (order_at book (get_or places i 0))

  pub most_value : (i : ℕ) → i < length legs → value_of (leg i) ≤ most_lots * most_price
  most_value i h = mul-le-mul (fit.most_lots_holds i h) (fit.most_price_holds i h)

  pub most_at : (i : ℕ) → i < length legs → amount_of (leg i) ≤ most_amount
  most_at i h = rw (amount_two (leg i)) (omega (arith, fit.most_lots_holds i h, most_value i h))

  -- ---- leg by leg
  pub sums_start : SumsTo book places legs 0 (replicate side_places 0)
  unfolding sum_at total from
  sums_start = record { long = length-replicate {A = ℕ} side_places 0; at = λ k h. get_or-replicate side_places k 0 0 h }

  sum_more : (n k : ℕ) → sum_at book places legs (n + 1) k ≡ sum_at book places legs n k + cond (eqb (place_of_leg n) k) (amount_of (leg n)) 0
  unfolding sum_at
  sum_more n k = rw (add-one n, total_more (λ i. cond (eqb (place_of_leg i) k) (amount_of (leg i)) 0) 0 n, zero-add n)

  pub sums_next : (n at : ℕ) (sums : List ℕ) → SumsTo book places legs n sums → at ≡ place_of_leg n → at < side_places
      → SumsTo book places legs (n + 1) (set sums at (get_or sums at 0 + amount_of (leg n)))
  sums_next n at sums s e h =
      record {
        long = length-set sums at _ ∙ s.long;
        at = λ k l. rw (sum_more n k, ← s.at k l, ← e)
            (same_or at k
            (λ f. rw (eq-eqb at k f, ← f) (get_or-set_same sums at _ 0 (omega (arith, s.long))))
            (λ d. rw (ne_eqb at k d) (get_or-set_other sums at k _ 0 (λ f. d (sym f)) ∙ omega arith)));
      }

  pub most_sum : (n k : ℕ) → n ≤ length legs → sum_at book places legs n k ≤ n * most_amount
  unfolding sum_at
  most_sum n k h =
      total_most _ most_amount 0 n
      (λ i _ l. by_bool (λ b. cond b (amount_of (leg i)) 0 ≤ most_amount) (eqb (place_of_leg i) k) (λ _. most_at i (omega arith)) (λ _. omega arith))

  pub sums_fit : (sums : List ℕ) → SumsTo book places legs (length legs) sums → SumsFit sums
  sums_fit sums s =
      record { long = s.long; most = λ k h. rw (s.at k h) (omega (arith, most_sum (length legs) k (omega arith), fit.most_legs_holds)) }

  -- ---- month by month
  month_three : (s : Side) (m : ℕ) → total (λ i. cond (counts_at book s m (get_or places i 0)) (amount_of (leg i)) 0) (from 0 (length legs))
      ≡ sum_at book places legs (length legs) (side_place (year_of m) s) + sum_at book places legs (length legs) (side_place (quarter_of m) s) + sum_at book places legs (length legs) (side_place (month_of m) s)
  unfolding sum_at
  month_three s m =
      total_same _ _ 0 (length legs) (λ i _ _. leg_places (order_at book (get_or places i 0)).side s (order_at book (get_or places i 0)).contract m (amount_of (leg i)))
      ∙ total_plus _ _ (from 0 (length legs))
      ∙ ap (λ x. x + sum_at book places legs (length legs) (side_place (month_of m) s)) (total_plus _ _ (from 0 (length legs)))

  month_two : (s : Side) (m : ℕ) → total (λ i. cond (counts_at book s m (get_or places i 0)) (amount_of (leg i)) 0) (from 0 (length legs))
      ≡ in_month book places lots_of legs s m * lot_unit + in_month book places value_of legs s m
  unfolding in_month
  month_two s m =
      total_same _ (λ i. cond (counts_at book s m (get_or places i 0)) (lots_of (leg i)) 0 * lot_unit + cond (counts_at book s m (get_or places i 0)) (value_of (leg i)) 0) 0 (length legs)
      (λ i _ h. rw (amount_two (leg i))
      (by_bool (λ b. cond b (lots_of (leg i) * lot_unit + value_of (leg i)) 0 ≡ cond b (lots_of (leg i)) 0 * lot_unit + cond b (value_of (leg i)) 0)
      (counts_at book s m (get_or places i 0)) (λ _. refl) (λ _. refl)))
      ∙ total_two _ _ (from 0 (length legs))

  value_below : (s : Side) (m : ℕ) → in_month book places value_of legs s m < lot_unit
  unfolding in_month
  value_below s m =
      omega (
        arith,
        fit.most_legs_holds,
        total_most (λ i. cond (counts_at book s m (get_or places i 0)) (value_of (leg i)) 0) (most_lots * most_price) 0 (length legs)
            (λ i _ h. by_bool (λ b. cond b (value_of (leg i)) 0 ≤ most_lots * most_price) (counts_at book s m (get_or places i 0))
            (λ _. most_value i (omega arith)) (λ _. omega arith)),
      )

  module _ (sums : List ℕ) (s : SumsTo book places legs (length legs) sums) where
    month_sum_lem : (u : Side) (m : ℕ) → m < months_in_span → month_sum sums u m ≡ in_month book places lots_of legs u m * lot_unit + in_month book places value_of legs u m
    month_sum_lem u m h =
        let below = months_below m h u in
        rw (s.at (side_place (year_of m) u) below.0, s.at (side_place (quarter_of m) u) below.1, s.at (side_place (month_of m) u) below.2, ← month_three u m)
        (month_two u m)

    month_same : (m : ℕ) → m < months_in_span → eqb (month_sum sums Buy m) (month_sum sums Sell m)
        ≡ eqb (in_month book places lots_of legs Buy m) (in_month book places lots_of legs Sell m) && eqb (in_month book places value_of legs Buy m) (in_month book places value_of legs Sell m)
    month_same m h = rw (month_sum_lem Buy m h, month_sum_lem Sell m h) (two_same _ _ _ _ (value_below Buy m) (value_below Sell m))

    pub sums_balanced : balanced_sums sums ≡ balanced_months book places lots_of legs && balanced_months book places value_of legs
    unfolding balanced_sums balanced_months
    sums_balanced = each_same _ _ 0 months_in_span (λ m _ h. month_same m (omega arith)) ∙ every_both _ _ (from 0 months_in_span)
