-- The best price that quotes, order by order. Assumes nothing.
use mathlib.Core.Path.{◌≡◌, refl, sym, ◌∙◌}
use mathlib.Core.Bool.{Bool, true, false, cond, ◌&&◌, ◌||◌}
use mathlib.Core.List.{List, [], ◌∷◌, map}
use mathlib.Core.Option.{Option, none, some}
use Prim.Native.Nat.{ℕ, zero, suc, ◌+◌, ◌≤◌, ◌<◌}
use native.Mathlib.Omega.{arith}
use lib.Dec.{eqb, ltb}
use lib.ListN.{length, get_or, set}
use lib.Seq.{get_or-set_same, get_or-set_other}
use borrow.Author.Tests.{lt-ltb, le-ltb, eq-eqb, ne_eqb}
use Rattle.arith.specs.Lists.{All, from}
use Rattle.arith.proofs.Alls.{all_map}
use Rattle.arith.proofs.Tests.{by_bool, true_or, le_or_lt, same_or, and_left, and_right}
use Rattle.rules.specs.Ranges.{contract_count, most_price}
use Rattle.rules.specs.declared.order.Order.{Order}
use Rattle.rules.specs.declared.order.Side.{Side}
use Rattle.rules.specs.declared.order.Side.TheVariants.{Buy, Sell}
use Rattle.rules.specs.Sides.{same_side}
use Rattle.rules.specs.Matching.{better_price, precedes, better, best}
use Rattle.reference_price.specs.Columns.{quotes_at, quote_of, best_price, better_quote}
use Rattle.rules.proofs.Sides.{same_side_lem}

-- ---- what holds of the best order
abbrev pub Holds : (Order → Type 0) → Option Order → Type 0
Holds P none = Unit {0}
Holds P (some o) = P o

better_holds : (P : Order → Type 0) (o : Order) (x : Option Order) → P o → Holds P x → Holds P (better o x)
better_holds P o none h g = h
better_holds P o (some b) h g = by_bool (λ t. Holds P (cond t (some b) (some o))) (precedes b o) (λ _. g) (λ _. h)

pub best_holds : (P : Order → Type 0) (p : Order → Bool) (os : List Order) → All (λ o. p o ≡ true → P o) os → Holds P (best p os)
unfolding best
best_holds P p [] a = tt
best_holds P p (o ∷ os) a =
    by_bool (λ t. Holds P (cond t (better o (best p os)) (best p os))) (p o)
    (λ e. better_holds P o (best p os) (a.0 e) (best_holds P p os a.1)) (λ _. best_holds P p os a.1)

pub best_same : (p q : Order → Bool) → ((o : Order) → p o ≡ q o) → (os : List Order) → best p os ≡ best q os
unfolding best
best_same p q e [] = refl
best_same p q e (o ∷ os) = rw (e o, best_same p q e os)

-- ---- the better of two prices
better_price_lem : (side : Side) (p q : ℕ) (t : Bool) → cond (better_price side p q || eqb p q && t) p q ≡ cond (better_price side q p) q p
better_price_lem Buy p q t =
    same_or p q (λ e. rw (e, le-ltb q q (omega arith), eq-eqb q q refl) (by_bool (λ u. cond u q q ≡ q) t (λ _. refl) (λ _. refl)))
    (λ e. rw (ne_eqb p q e) (le_or_lt p q (λ l. rw (le-ltb q p l, lt-ltb p q (omega arith))) (λ l. rw (lt-ltb q p l, le-ltb p q (omega arith)))))
better_price_lem Sell p q t =
    same_or p q (λ e. rw (e, le-ltb q q (omega arith), eq-eqb q q refl) (by_bool (λ u. cond u q q ≡ q) t (λ _. refl) (λ _. refl)))
    (λ e. rw (ne_eqb p q e) (le_or_lt p q (λ l. rw (lt-ltb p q (omega arith), le-ltb q p l)) (λ l. rw (le-ltb p q (omega arith), lt-ltb q p l))))

quote_of_lem : (t : Bool) (b o : Order) → quote_of (cond t (some b) (some o)) ≡ cond t b.price.0 o.price.0
quote_of_lem true b o = refl
quote_of_lem false b o = refl

quote_better : (side : Side) (o : Order) (x : Option Order) → Holds (λ b. (b.side ≡ side) × (1 ≤ b.price.0)) x → quote_of (better o x) ≡ better_quote side o.price.0 (quote_of x)
unfolding precedes better_quote
quote_better side o none h = refl
quote_better side o (some b) h =
    quote_of_lem (precedes b o) b o
    ∙ rw (h.0, ne_eqb b.price.0 0 (omega (arith, h.1))) (better_price_lem side b.price.0 o.price.0 (ltb b.number o.number))

module _ (d s : ℕ) (side : Side) where
  quotes_side : (c : ℕ) (o : Order) → eqb o.contract c && quotes_at d s side o ≡ true → o.side ≡ side
  unfolding quotes_at
  quotes_side c o e = same_side_lem o.side side (and_left (same_side o.side side) _ (and_right (eqb o.contract c) _ e))

  price_more : (o : Order) (os : List Order) (c : ℕ) → All (λ o. 1 ≤ o.price.0) os
      → best_price d s side (o ∷ os) c ≡ cond (eqb o.contract c && quotes_at d s side o) (better_quote side o.price.0 (best_price d s side os c)) (best_price d s side os c)
  unfolding best_price best
  price_more o os c a =
      let p : Order → Bool = λ o. eqb o.contract c && quotes_at d s side o in
      let held = best_holds (λ b. (b.side ≡ side) × (1 ≤ b.price.0)) p os
      (all_map (λ o. 1 ≤ o.price.0) (λ o. p o ≡ true → (o.side ≡ side) × (1 ≤ o.price.0)) os (λ o l e. (quotes_side c o e, l)) a) in
      by_bool (λ t. quote_of (cond t (better o (best p os)) (best p os)) ≡ cond t (better_quote side o.price.0 (quote_of (best p os))) (quote_of (best p os))) (p o)
      (λ _. quote_better side o (best p os) held) (λ _. refl)

  noted : (q : List ℕ) (o : Order) (c : ℕ) → o.contract < length q
      → get_or (cond (quotes_at d s side o) (set q o.contract (better_quote side o.price.0 (get_or q o.contract 0))) q) c 0
      ≡ cond (eqb o.contract c && quotes_at d s side o) (better_quote side o.price.0 (get_or q c 0)) (get_or q c 0)
  noted q o c h =
      let x = better_quote side o.price.0 (get_or q o.contract 0) in
      true_or (quotes_at d s side o)
      (λ t. rw t (same_or o.contract c
      (λ e. rw (← e, eq-eqb o.contract o.contract refl) (get_or-set_same q o.contract x 0 h))
      (λ e. rw (ne_eqb o.contract c e) (get_or-set_other q o.contract c x 0 (λ z. e (sym z))))))
      (λ t. rw t (by_bool (λ u. get_or q c 0 ≡ cond (u && false) (better_quote side o.price.0 (get_or q c 0)) (get_or q c 0)) (eqb o.contract c) (λ _. refl) (λ _. refl)))

  pub quotes_next : (q : List ℕ) (o : Order) (os : List Order) → All (λ o. 1 ≤ o.price.0) os → o.contract < length q
      → ((c : ℕ) → c < contract_count → get_or q c 0 ≡ best_price d s side os c)
      → (c : ℕ) → c < contract_count → get_or (cond (quotes_at d s side o) (set q o.contract (better_quote side o.price.0 (get_or q o.contract 0))) q) c 0 ≡ best_price d s side (o ∷ os) c
  quotes_next q o os a h f c b = noted q o c h ∙ rw (f c b) (sym (price_more o os c a))

  pub quotes_none : (c : ℕ) → best_price d s side [] c ≡ 0
  unfolding best_price best
  quotes_none c = refl

  -- no price that quotes passes the most
  pub price_most : (os : List Order) (c : ℕ) → All (λ o. o.price.0 ≤ most_price) os → best_price d s side os c ≤ most_price
  unfolding best_price
  price_most os c a =
      let p : Order → Bool = λ o. eqb o.contract c && quotes_at d s side o in
      go (best p os) (best_holds (λ b. b.price.0 ≤ most_price) p os (all_map (λ o. o.price.0 ≤ most_price) (λ o. p o ≡ true → o.price.0 ≤ most_price) os (λ o l e. l) a))
    where
      go : (x : Option Order) → Holds (λ b. b.price.0 ≤ most_price) x → quote_of x ≤ most_price
      go none h = omega arith
      go (some b) h = h

-- ---- what holds at each of some places
pub all_from_place : (P : Order → Type 0) (f : ℕ → Order) (a n : ℕ) → ((i : ℕ) → a ≤ i → i < a + n → P (f i)) → All P (map f (from a n))
unfolding from
all_from_place P f a zero h = tt
all_from_place P f a (suc n) h = (h a (omega arith) (omega arith), all_from_place P f (suc a) n (λ i l u. h i (omega arith) (omega arith)))
