-- A member's turn, a round and several rounds. Assumes nothing.
use Prim.Native.Nat.{ℕ, zero, suc, ◌+◌, ◌-◌, ◌≤◌, ◌<◌}
use mathlib.Core.Path.{◌≡◌, refl, ◌∙◌}
use mathlib.Core.Bool.{Bool, true, false, ◌&&◌}
use mathlib.Core.List.{List, [], ◌∷◌}
use native.Mathlib.Omega.{arith}
use native.Mathlib.Nat.{suc-add}
use native.Mathlib.Numerals.{add-one}
use lib.Dec.{ltb}
use lib.ListN.{length, get_or, set, drop, length-set, drop_of_length-le}
use lib.Seq.{drop-cons}
use borrow.Author.Tests.{lt-ltb, le-ltb}
use Rattle.arith.proofs.Tests.{le_or_lt, and_false}
use Rattle.rules.specs.Default.{sum_of, Dealing, turn, round, rounds}
use Rattle.rules.proofs.Netting.{sum_set}

-- ---- a turn
module _ (mins : List ℕ) (i : ℕ) (d : List ℕ) (k : ℕ) where
  pub turn_deals : 0 < k → get_or d i 0 < get_or mins i 0 → turn mins i (record { received = d; undealt = k }) ≡ record { received = set d i (get_or d i 0 + 1); undealt = k - 1 }
  unfolding turn
  turn_deals p q = rw (lt-ltb 0 k p, lt-ltb (get_or d i 0) (get_or mins i 0) q)

  pub turn_full : get_or mins i 0 ≤ get_or d i 0 → turn mins i (record { received = d; undealt = k }) ≡ record { received = d; undealt = k }
  unfolding turn
  turn_full q = rw (le-ltb (get_or d i 0) (get_or mins i 0) q, and_false (ltb 0 k))

  pub turn_none : k ≤ 0 → turn mins i (record { received = d; undealt = k }) ≡ record { received = d; undealt = k }
  unfolding turn
  turn_none q = rw (le-ltb 0 k q)

-- ---- a round
pub round_none : (mins is d : List ℕ) (k : ℕ) → k ≤ 0 → round mins is (record { received = d; undealt = k }) ≡ record { received = d; undealt = k }
unfolding round
round_none mins [] d k h = refl
round_none mins (i ∷ is) d k h = rw (turn_none mins i d k h) (round_none mins is d k h)

-- What a round keeps: the number of members, and the lots received and undealt together.
pub record Keeps (d : List ℕ) (k : ℕ) (s : Dealing) : Type 0 where
  pub long : length s.received ≡ length d
  pub whole : sum_of s.received + s.undealt ≡ sum_of d + k
  pub less : s.undealt ≤ k

pub round_keeps : (mins is d : List ℕ) (k : ℕ) → ((j : ℕ) → get_or is j 0 < length d) → Keeps d k (round mins is (record { received = d; undealt = k }))
unfolding round
round_keeps mins [] d k b = record { long = refl; whole = refl; less = omega arith }
round_keeps mins (i ∷ is) d k b =
    le_or_lt (suc (get_or d i 0)) (get_or mins i 0)
    (λ q. le_or_lt 1 k
    (λ p. rw (turn_deals mins i d k p q)
    (let d' = set d i (get_or d i 0 + 1) in
    let r = round_keeps mins is d' (k - 1) (λ j. rw length-set (b (suc j))) in
    record { long = r.long ∙ length-set d i (get_or d i 0 + 1); whole = omega (arith, r.whole, sum_set d i (b 0)); less = omega (arith, r.less) }))
    (λ p. rw (turn_none mins i d k (omega arith)) (round_keeps mins is d k (λ j. b (suc j)))))
    (λ q. rw (turn_full mins i d k (omega arith)) (round_keeps mins is d k (λ j. b (suc j))))

-- A round read from its front: the turn of the member at place i.
module _ (mins is d : List ℕ) (k i : ℕ) (within : i < length is) where
  abbrev deals : Bool
  deals = ltb 0 k && ltb (get_or d (get_or is i 0) 0) (get_or mins (get_or is i 0) 0)

  pub round_deals : deals ≡ true
      → round mins (drop (i + 1) is) (record { received = set d (get_or is i 0) (get_or d (get_or is i 0) 0 + 1); undealt = k - 1 }) ≡ round mins (drop i is) (record { received = d; undealt = k })
  unfolding round turn
  round_deals e = rw (drop-cons is i 0 within, round, turn, e, add-one)

  pub round_passes : deals ≡ false → round mins (drop (i + 1) is) (record { received = d; undealt = k }) ≡ round mins (drop i is) (record { received = d; undealt = k })
  unfolding round turn
  round_passes e = rw (drop-cons is i 0 within, round, turn, e, add-one)

pub round_end : (mins is : List ℕ) (s : Dealing) (i : ℕ) → length is ≤ i → round mins (drop i is) s ≡ s
unfolding round
round_end mins is s i h = rw (drop_of_length-le is h)

-- ---- several rounds
pub rounds_none : (n : ℕ) (mins is d : List ℕ) (k : ℕ) → k ≤ 0 → rounds n mins is (record { received = d; undealt = k }) ≡ record { received = d; undealt = k }
unfolding rounds
rounds_none zero mins is d k h = refl
rounds_none (suc n) mins is d k h = rw (round_none mins is d k h) (rounds_none n mins is d k h)

pub rounds_last : (n : ℕ) (mins is : List ℕ) (s : Dealing) → rounds (suc n) mins is s ≡ round mins is (rounds n mins is s)
unfolding rounds
rounds_last zero mins is s = refl
rounds_last (suc n) mins is s = rounds_last n mins is (round mins is s)

pub rounds_add : (a b : ℕ) (mins is : List ℕ) (s : Dealing) → rounds (a + b) mins is s ≡ rounds b mins is (rounds a mins is s)
unfolding rounds
rounds_add zero b mins is s = let e : zero + b ≡ b = omega arith in rw e
rounds_add (suc a) b mins is s = rw (suc-add a b) (rounds_add a b mins is (round mins is s))
