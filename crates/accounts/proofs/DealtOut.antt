-- Lots dealt out in turns: all of them are dealt, and nobody receives more than its minimum. Assumes nothing.
use Prim.Native.Nat.{ℕ, zero, suc, ◌+◌, ◌-◌, ◌≤◌, ◌<◌}
use mathlib.Core.Path.{◌≡◌, refl, sym, ap, ◌∙◌}
use mathlib.Core.Bool.{Bool, false, cond, ◌&&◌}
use mathlib.Core.List.{List, [], ◌∷◌, map}
use native.Mathlib.Omega.{arith}
use native.Mathlib.Nat.{div-eq_of_lt, div-zero, mul-zero}
use lib.Dec.{eqb, ltb}
use lib.ListN.{length, get_or, set, replicate, length-map, length-set, length-replicate, get_or-eq_default, get_or-map}
use lib.Seq.{get_or-set_same, get_or-set_other}
use borrow.Author.Tests.{eq-eqb, ne_eqb, lt-ltb, ltb-true}
use Rattle.arith.specs.Lists.{how_many, total, from}
use Rattle.arith.proofs.Tests.{never, by_bool, le_or_lt, same_or, and_left, and_right}
use Rattle.rules.specs.Default.{sum_of, minimum, minimums, comes_first, placed, in_order, Dealing, turn, round, rounds, dealt_out}
use Rattle.rules.proofs.Minimums.{minimums_suffice}
use Rattle.rules.proofs.Netting.{sum_set, sum_zeros}

-- without weight, no minimum
minimum_none : (l w : ℕ) → minimum l w 0 ≡ 0
unfolding minimum
minimum_none l zero = div-zero _
minimum_none l (suc w) = div-eq_of_lt (omega (arith, mul-zero l))

-- ---- everybody has a turn in each round
placed_in : (f : ℕ → ℕ → Bool) (x i : ℕ) (is : List ℕ) → how_many (eqb x) (placed f i is) ≡ how_many (eqb x) (i ∷ is)
unfolding placed how_many
placed_in f x i [] = refl
placed_in f x i (j ∷ is) =
    by_bool (λ b. how_many (eqb x) (cond b (i ∷ j ∷ is) (j ∷ placed f i is)) ≡ how_many (eqb x) (i ∷ j ∷ is)) (f i j)
    (λ e. refl) (λ e. omega (arith, placed_in f x i is))

order_in : (f : ℕ → ℕ → Bool) (x : ℕ) (is : List ℕ) → how_many (eqb x) (in_order f is) ≡ how_many (eqb x) is
unfolding in_order how_many
order_in f x [] = refl
order_in f x (i ∷ is) = placed_in f x i (in_order f is) ∙ ap (λ n. cond (eqb x i) 1 0 + n) (order_in f x is)

from_in : (x a n : ℕ) → a ≤ x → x < a + n → 0 < how_many (eqb x) (from a n)
unfolding from how_many
from_in x a zero h l = absurd (omega arith)
from_in x a (suc n) h l =
    same_or x a (λ e. rw (eq-eqb x a e) (omega arith)) (λ e. rw (ne_eqb x a e) (omega (arith, from_in x (suc a) n (omega arith) (omega arith))))

-- where the sum is less, one entry is
one_less : {P : Type 0} (a b : List ℕ) → length a ≡ length b → sum_of a < sum_of b → ((i : ℕ) → i < length b → get_or a i 0 < get_or b i 0 → P) → P
unfolding sum_of total
one_less [] [] e h f = absurd (omega arith)
one_less [] (y ∷ b) e h f = absurd (omega arith)
one_less (x ∷ a) [] e h f = absurd (omega arith)
one_less (x ∷ a) (y ∷ b) e h f = le_or_lt (suc x) y (λ l. f 0 (omega arith) l) (λ l. one_less a b (omega arith) (omega arith) (λ i p q. f (suc i) (omega arith) q))

none_received : (n i : ℕ) → ◌≡◌ {A = ℕ} (get_or (replicate n 0) i 0) 0
none_received zero i = refl
none_received (suc n) zero = refl
none_received (suc n) (suc i) = none_received n i

-- ---- what holds at every turn
module _ (mins : List ℕ) where
  -- of l lots, each is received or not dealt out, and nobody has more than its minimum
  record Dealt (l : ℕ) (s : Dealing) : Type 0 where
    pub long : length s.received ≡ length mins
    pub whole : sum_of s.received + s.undealt ≡ l
    pub below : (i : ℕ) → get_or s.received i 0 ≤ get_or mins i 0

  -- one lot to i
  abbrev given : ℕ → Dealing → Dealing
  given i s = record { received = set s.received i (get_or s.received i 0 + 1); undealt = s.undealt - 1 }

  given_dealt : (l i : ℕ) (s : Dealing) → 0 < s.undealt → get_or s.received i 0 < get_or mins i 0 → Dealt l s → Dealt l (given i s)
  given_dealt l i s p q d =
      let r = s.received in
      let h : i < length r = le_or_lt (length r) i (λ k. absurd (let z = get_or-eq_default mins 0 {n = i} (omega (arith, d.long)) in omega arith)) (λ k. k) in
      record {
        long = length-set r i (get_or r i 0 + 1) ∙ d.long;
        whole = omega (arith, sum_set r i h, d.whole);
        below = λ j. same_or j i (λ e. rw (e, get_or-set_same r i (get_or r i 0 + 1) 0 h) (omega arith)) (λ e. rw (get_or-set_other r i j (get_or r i 0 + 1) 0 e) (d.below j));
      }

  -- i has its turn: there are lots, and it has less than its minimum
  abbrev due : ℕ → Dealing → Bool
  due i s = ltb 0 s.undealt && ltb (get_or s.received i 0) (get_or mins i 0)

  turn_dealt : (l i : ℕ) (s : Dealing) → Dealt l s → Dealt l (turn mins i s)
  unfolding turn
  turn_dealt l i s d =
      by_bool (λ c. Dealt l (cond c (given i s) s)) (due i s)
      (λ e. given_dealt l i s (ltb-true _ _ (and_left (ltb 0 s.undealt) _ e)) (ltb-true _ _ (and_right (ltb 0 s.undealt) _ e)) d) (λ e. d)

  round_dealt : (l : ℕ) (is : List ℕ) (s : Dealing) → Dealt l s → Dealt l (round mins is s)
  unfolding round
  round_dealt l [] s d = d
  round_dealt l (i ∷ is) s d = round_dealt l is (turn mins i s) (turn_dealt l i s d)

  rounds_dealt : (l n : ℕ) (is : List ℕ) (s : Dealing) → Dealt l s → Dealt l (rounds n mins is s)
  unfolding rounds
  rounds_dealt l zero is s d = d
  rounds_dealt l (suc n) is s d = rounds_dealt l n is (round mins is s) (round_dealt l is s d)

  -- ---- a round deals one lot at least, to one that has less than its minimum
  turn_undealt : (i : ℕ) (s : Dealing) → (turn mins i s).undealt ≤ s.undealt
  unfolding turn
  turn_undealt i s = by_bool (λ c. (cond c (given i s) s).undealt ≤ s.undealt) (due i s) (λ e. omega arith) (λ e. omega arith)

  round_undealt : (is : List ℕ) (s : Dealing) → (round mins is s).undealt ≤ s.undealt
  unfolding round
  round_undealt [] s = omega arith
  round_undealt (i ∷ is) s = omega (arith, round_undealt is (turn mins i s), turn_undealt i s)

  round_deals : (x : ℕ) (is : List ℕ) (s : Dealing) → 0 < s.undealt → get_or s.received x 0 < get_or mins x 0 → 0 < how_many (eqb x) is → (round mins is s).undealt < s.undealt
  unfolding round turn how_many
  round_deals x [] s p q h = absurd (omega arith)
  round_deals x (i ∷ is) s p q h =
      by_bool (λ c. (round mins is (cond c (given i s) s)).undealt < s.undealt) (due i s)
      (λ e. omega (arith, round_undealt is (given i s)))
      (λ e. same_or x i
      (λ o. never (sym (rw (← o, lt-ltb 0 s.undealt p, lt-ltb (get_or s.received x 0) (get_or mins x 0) q) refl) ∙ e))
      (λ o. round_deals x is s p q (let k = rw (ne_eqb x i o) at h in omega arith)))

  module _ (l : ℕ) (is : List ℕ) (enough : l ≤ sum_of mins) (all_in : (i : ℕ) → i < length mins → 0 < how_many (eqb i) is) where
    round_fewer : (s : Dealing) → Dealt l s → (round mins is s).undealt ≤ s.undealt - 1
    round_fewer s d =
        le_or_lt s.undealt 0 (λ z. omega (arith, round_undealt is s))
        (λ z. one_less s.received mins d.long (omega (arith, d.whole)) (λ i p q. omega (arith, round_deals i is s z q (all_in i p))))

    -- n rounds deal n lots, or all
    rounds_deal : (n : ℕ) (s : Dealing) → Dealt l s → (rounds n mins is s).undealt ≤ s.undealt - n
    unfolding rounds
    rounds_deal zero s d = omega arith
    rounds_deal (suc n) s d = omega (arith, round_fewer s d, rounds_deal n (round mins is s) (round_dealt l is s d))

  -- before the first turn
  start : (l : ℕ) → Dealt l (record { received = replicate (length mins) 0; undealt = l })
  start l = record { long = length-replicate (length mins) 0; whole = rw (sum_zeros (length mins)) (omega arith); below = λ i. rw (none_received (length mins) i) (omega arith) }

-- ---- the laws
module _ (l : ℕ) (ws : List ℕ) where
  length_minimums : length (minimums l ws) ≡ length ws
  unfolding minimums
  length_minimums = length-map ws (minimum l (sum_of ws))

  in_turn : List ℕ
  in_turn = in_order (comes_first (minimums l ws) ws) (from 0 (length ws))

  all_in_turn : (i : ℕ) → i < length ws → 0 < how_many (eqb i) in_turn
  unfolding in_turn
  all_in_turn i h = rw (order_in (comes_first (minimums l ws) ws) i (from 0 (length ws))) (from_in i 0 (length ws) (omega arith) (omega arith))

  dealing : Dealing
  dealing = rounds l (minimums l ws) in_turn (record { received = replicate (length ws) 0; undealt = l })

  dealing_dealt : Dealt (minimums l ws) l dealing
  unfolding dealing
  dealing_dealt = rounds_dealt (minimums l ws) l l in_turn _ (rw length_minimums at (start (minimums l ws) l))

  dealing_received : dealt_out l ws ≡ dealing.received
  unfolding dealt_out dealing in_turn
  dealing_received = refl

  -- one number for each weight
  pub dealt_length : length (dealt_out l ws) ≡ length ws
  dealt_length = rw dealing_received (dealing_dealt.long ∙ length_minimums)

  -- nobody receives more than its minimum
  pub dealt_below : (i : ℕ) → get_or (dealt_out l ws) i 0 ≤ get_or (minimums l ws) i 0
  dealt_below i = rw dealing_received (dealing_dealt.below i)

  -- nobody without weight receives anything
  pub dealt_none : (i : ℕ) → get_or ws i 0 ≡ 0 → get_or (dealt_out l ws) i 0 ≡ 0
  unfolding minimums
  dealt_none i e =
      let f = minimum l (sum_of ws) in
      let n = minimum_none l (sum_of ws) in
      let z : get_or (minimums l ws) i 0 ≡ 0 = ap (get_or (map f ws) i) (sym n) ∙ get_or-map f ws i 0 ∙ ap f e ∙ n in
      omega (arith, dealt_below i)

  -- all are dealt out, if there is any weight or none is to be dealt
  pub all_dealt : (ltb 0 l && eqb (sum_of ws) 0) ≡ false → sum_of (dealt_out l ws) ≡ l
  unfolding dealing
  all_dealt e =
      let mins = minimums l ws in
      let d = dealing_dealt in
      rw dealing_received
      (le_or_lt l 0 (λ z. omega (arith, d.whole))
      (λ z.
      let some : 0 < sum_of ws = le_or_lt 1 (sum_of ws) (λ k. k) (λ k. never (sym (rw (lt-ltb 0 l z, eq-eqb (sum_of ws) 0 (omega arith)) refl) ∙ e)) in
      let begin = rw length_minimums at (start mins l) in
      omega (arith, d.whole, rounds_deal mins l in_turn (minimums_suffice l ws some) (rw length_minimums all_in_turn) l _ begin)))
