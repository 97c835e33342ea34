-- A round lifts every member from one level to the next while the lots suffice, so that many rounds are one level. Assumes nothing.
use Prim.Native.Nat.{ℕ, zero, suc, ◌+◌, ◌-◌, ◌≤◌, ◌<◌, min}
use mathlib.Core.Path.{◌≡◌, refl, sym, ap, subst, ◌∙◌}
use mathlib.Core.Bool.{Bool, cond}
use mathlib.Core.List.{List, [], ◌∷◌}
use mathlib.Core.Logic.{◌⊎◌, inl, inr, ⊎_elim}
use native.Mathlib.Omega.{arith}
use native.Mathlib.Numerals.{add-one}
use lib.Dec.{eqb}
use lib.ListN.{length, get_or, set, replicate, length-map, length-set, get_or-eq_default}
use lib.Seq.{ext_get_or, get_or-set_same, get_or-set_other}
use borrow.Author.Tests.{eq-eqb, ne_eqb}
use Rattle.arith.specs.Lists.{from}
use Rattle.arith.proofs.Tests.{le_or_lt, same_or}
use Rattle.rules.specs.Default.{sum_of, Dealing, in_order, turn, round, rounds}
use Rattle.rules.proofs.MembersInOrder.{times, times_once, times_none, order_below}
use Rattle.rules.proofs.Netting.{sum_cons, sum_none, sum_zeros, sum_set, sum_le, sum_lt}
use Rattle.rules.proofs.Turns.{turn_deals, turn_full, round_none, round_keeps, rounds_none, rounds_last, rounds_add}
use Rattle.dealing.specs.Levels.{at_level, Highest}

-- ---- levels
level_at : (r : ℕ) (m : List ℕ) (j : ℕ) → get_or (at_level r m) j 0 ≡ min r (get_or m j 0)
unfolding at_level
level_at r [] j = omega arith
level_at r (x ∷ m) zero = refl
level_at r (x ∷ m) (suc j) = level_at r m j

level_length : (r : ℕ) (m : List ℕ) → length (at_level r m) ≡ length m
unfolding at_level
level_length r m = length-map m (min r)

level_le : (q r : ℕ) (m : List ℕ) → q ≤ r → sum_of (at_level q m) ≤ sum_of (at_level r m)
level_le q r m h = sum_le (at_level q m) (at_level r m) (level_length q m ∙ sym (level_length r m)) (λ j. rw (level_at q m j, level_at r m j) (omega arith))

-- no minimum is above g, so that levels above g are alike
pub level_top : (l g : ℕ) (m : List ℕ) → ((j : ℕ) → get_or m j 0 ≤ g) → at_level (min l g) m ≡ at_level l m
level_top l g m h =
    ext_get_or 0 (at_level (min l g) m) (at_level l m) (level_length (min l g) m ∙ sym (level_length l m))
    (λ j k. rw (level_at (min l g) m j, level_at l m j) (omega (arith, h j)))

-- a level that the lots suffice for is below one that they do not
pub level_below : (l r t : ℕ) (m : List ℕ) → sum_of (at_level r m) ≤ l → l < sum_of (at_level t m) → r < t
level_below l r t m e s = le_or_lt t r (λ h. absurd (omega (arith, level_le t r m h))) (λ h. h)

level_none : (m : List ℕ) → at_level 0 m ≡ replicate (length m) 0
unfolding at_level
level_none [] = refl
level_none (x ∷ m) = let e : min 0 x ≡ 0 = omega arith in rw (e, level_none m)

pub level_zero : (m : List ℕ) → sum_of (at_level 0 m) ≡ 0
level_zero m = rw (level_none m) (sum_zeros (length m))

-- a level reached by all, or at least its own lots
level_least : (r : ℕ) (m : List ℕ) → min r (sum_of m) ≤ sum_of (at_level r m)
unfolding at_level
level_least r [] = rw sum_none (omega arith)
level_least r (x ∷ m) = rw (sum_cons x m, sum_cons (min r x) (at_level r m)) (omega (arith, level_least r m))

-- l lots dealt to level r
unfoldable pub dealt_to : ℕ → List ℕ → ℕ → Dealing
dealt_to l m r = record { received = at_level r m; undealt = l - sum_of (at_level r m) }

-- ---- a round
module _ (l : ℕ) (m : List ℕ) (r : ℕ) where
  -- the lots suffice for the next level, or some are undealt after the round
  abbrev Ample : List ℕ → Dealing → Type 0
  Ample is s = (sum_of (at_level (suc r) m) ≤ l) ⊎ (0 < (round m is s).undealt)

  ample_next : (i : ℕ) (is : List ℕ) (s s' : Dealing) → turn m i s ≡ s' → Ample (i ∷ is) s → Ample is s'
  unfolding round
  ample_next i is s s' e a = subst (λ (x : Dealing). Ample is x) e a

  -- Part of a round: those who still have their turn stand at level r, the others at r + 1.
  lift : (is d : List ℕ) (k : ℕ) → length d ≡ length m → ((j : ℕ) → get_or is j 0 < length m) → ((j : ℕ) → times j is ≤ 1)
      → ((j : ℕ) → get_or d j 0 ≡ min (suc r - times j is) (get_or m j 0)) → sum_of d + k ≡ l → Ample is (record { received = d; undealt = k })
      → round m is (record { received = d; undealt = k }) ≡ dealt_to l m (suc r)
  unfolding round dealt_to times
  lift [] d k n b u f s a =
      let e : d ≡ at_level (suc r) m = ext_get_or 0 d (at_level (suc r) m) (n ∙ sym (level_length (suc r) m)) (λ j h. rw (level_at (suc r) m j) (omega (arith, f j))) in
      let q : k ≡ l - sum_of (at_level (suc r) m) = omega (arith, ap sum_of e) in
      rw (e, q)
  lift (i ∷ is) d k n b u f s a =
      let self : ◌≡◌ {A = ℕ} (cond (eqb i i) 1 0) 1 = rw (eq-eqb i i refl) in
      let z : times i is ≡ 0 = omega (arith, u i) in
      let here : get_or d i 0 ≡ min r (get_or m i 0) = omega (arith, f i) in
      let other : (j : ℕ) → (j ≡ i → ⊥) → get_or d j 0 ≡ min (suc r - times j is) (get_or m j 0)
      = λ j c. let o : ◌≡◌ {A = ℕ} (cond (eqb i j) 1 0) 0 = rw (ne_eqb i j (λ e. c (sym e))) in omega (arith, f j) in
      le_or_lt (suc r) (get_or m i 0)
      (λ h.
      let d' = set d i (get_or d i 0 + 1) in
      let low : sum_of d < sum_of (at_level (suc r) m)
      = sum_lt d (at_level (suc r) m) i (n ∙ sym (level_length (suc r) m)) (λ j. rw (level_at (suc r) m j) (omega (arith, f j))) (rw (level_at (suc r) m i) (omega arith)) in
      let some : 0 < k = ⊎_elim (λ x. omega arith) (λ x. omega (arith, (round_keeps m (i ∷ is) d k (λ j. rw n (b j))).less)) a in
      let e = turn_deals m i d k some (omega arith) in
      rw e
      (lift is d' (k - 1) (simp length-set n) (λ j. b (suc j)) (λ j. omega (arith, u j))
      (λ j. same_or j i (λ e. rw (e, get_or-set_same d i (get_or d i 0 + 1) 0 (omega (arith, b 0))) (omega arith)) (λ c. rw (get_or-set_other d i j (get_or d i 0 + 1) 0 c) (other j c)))
      (rw (sum_set d i (omega (arith, b 0))) (omega arith)) (ample_next i is _ _ e a)))
      (λ h.
      let e = turn_full m i d k (omega arith) in
      rw e
      (lift is d k n (λ j. b (suc j)) (λ j. omega (arith, u j)) (λ j. same_or j i (λ e. rw e (omega arith)) (other j)) s (ample_next i is _ _ e a)))

-- ---- rounds, for members in any order
module _ (l : ℕ) (m : List ℕ) (first : ℕ → ℕ → Bool) (some : 0 < length m) where
  abbrev order : List ℕ
  order = in_order first (from 0 (length m))

  abbrev start : Dealing
  start = record { received = replicate (length m) 0; undealt = l }

  times_most : (j : ℕ) → times j order ≤ 1
  times_most j = le_or_lt (length m) j (λ k. omega (arith, times_none first j 0 (length m) (omega arith))) (λ k. omega (arith, times_once first j 0 (length m) (omega arith) (omega arith)))

  stands : (r j : ℕ) → get_or (at_level r m) j 0 ≡ min (suc r - times j order) (get_or m j 0)
  stands r j =
      rw (level_at r m j)
      (le_or_lt (length m) j (λ k. rw (get_or-eq_default m 0 k) (omega arith)) (λ k. rw (times_once first j 0 (length m) (omega arith) (omega arith)) (omega arith)))

  next_level : (r : ℕ) → sum_of (at_level r m) ≤ l → Ample l m r order (dealt_to l m r) → round m order (dealt_to l m r) ≡ dealt_to l m (suc r)
  unfolding dealt_to
  next_level r h a =
      lift l m r order (at_level r m) (l - sum_of (at_level r m)) (level_length r m) (order_below first (length m) 0 (length m) some (omega arith)) times_most (stands r)
      (omega arith) a

  level_rounds : (r : ℕ) → sum_of (at_level r m) ≤ l → rounds r m order start ≡ dealt_to l m r
  unfolding rounds dealt_to
  level_rounds zero h = let q : l - 0 ≡ l = omega arith in rw (level_none m, sum_zeros (length m), q)
  level_rounds (suc r) h =
      let low = level_le r (suc r) m (omega arith) in
      rounds_last r m order start ∙ rw (level_rounds r (omega arith)) (next_level r (omega arith) (inl h))

  -- the round after the highest level
  abbrev last : ℕ → Dealing
  last r = round m order (dealt_to l m r)

  pub last_whole : (r : ℕ) → sum_of (at_level r m) ≤ l → sum_of (last r).received + (last r).undealt ≡ l
  unfolding dealt_to
  last_whole r h = omega (arith, (round_keeps m order (at_level r m) (l - sum_of (at_level r m)) (λ j. rw (level_length r m) (order_below first (length m) 0 (length m) some (omega arith) j))).whole)

  -- Lots undealt after it would suffice for one level more.
  last_spent : (r : ℕ) → Highest l m r → r < l → (last r).undealt ≡ 0
  unfolding dealt_to
  last_spent r h k =
      le_or_lt 1 (last r).undealt
      (λ p. let e = next_level r h.enough (inr p) in
      let whole = rw e at (last_whole r h.enough) in
      absurd (omega (arith, rw (add-one r) at (h.short k), whole)))
      (λ p. omega arith)

  full : (r : ℕ) → Highest l m r → l ≤ sum_of m → l ≤ r → l - sum_of (at_level r m) ≡ 0
  full r h c k = let e : r ≡ l = omega (arith, h.within) in rw e (omega (arith, level_least l m))

  pub last_round : (r : ℕ) → Highest l m r → l ≤ sum_of m → (rounds l m order start ≡ last r) × ((last r).undealt ≡ 0)
  unfolding rounds dealt_to
  last_round r h c =
      let jump : rounds l m order start ≡ rounds (l - r) m order (dealt_to l m r) =
      (let q : r + (l - r) ≡ l = omega (arith, h.within) in rw (← level_rounds r h.enough) (rw q at (rounds_add r (l - r) m order start))) in
      le_or_lt l r
      (λ k. let z : l - r ≡ zero = omega arith in
      let e = round_none m order (at_level r m) (l - sum_of (at_level r m)) (omega (arith, full r h c k)) in
      (jump ∙ rw z (sym e), ap (λ s. s.undealt) e ∙ full r h c k))
      (λ k. let z : l - r ≡ suc (l - r - 1) = omega arith in
      let e = last_spent r h k in
      (jump ∙ rw z (rounds_none (l - r - 1) m order (last r).received (last r).undealt (omega arith)), e))

-- there is a highest level
pub highest : {P : Type 0} (l : ℕ) (m : List ℕ) (n r : ℕ) → r + n ≡ l → sum_of (at_level r m) ≤ l → ((s : ℕ) → Highest l m s → P) → P
highest l m zero r e h k = k r (record { within = omega arith; enough = h; short = λ q. absurd (omega arith) })
highest l m (suc n) r e h k =
    le_or_lt (sum_of (at_level (suc r) m)) l (λ q. highest l m n (suc r) (omega arith) q k)
    (λ q. k r (record { within = omega arith; enough = h; short = λ _. rw (add-one r) q }))
