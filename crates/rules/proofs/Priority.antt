-- Priority among orders of one side is a total order, and the best order is one that none precedes. Assumes nothing.
use Prim.Native.Nat.{ℕ, ◌≤◌, ◌<◌}
use mathlib.Core.Path.{◌≡◌, refl, sym, subst, ◌∙◌}
use mathlib.Core.Bool.{Bool, true, false, cond, ◌&&◌, ◌||◌}
use mathlib.Core.List.{List, [], ◌∷◌}
use mathlib.Core.Option.{Option, none, some}
use native.Mathlib.Omega.{arith}
use lib.Dec.{eqb, ltb}
use borrow.Author.Tests.{lt-ltb, le-ltb, eq-eqb, ne_eqb}
use Rattle.arith.specs.Lists.{All}
use Rattle.arith.proofs.Alls.{all_map}
use Rattle.arith.proofs.Tests.{never, by_bool, le_or_lt, same_or}
use Rattle.rules.specs.declared.order.Order.{Order}
use Rattle.rules.specs.declared.order.Side.{Side}
use Rattle.rules.specs.declared.order.Side.TheVariants.{Buy, Sell}
use Rattle.rules.specs.Matching.{better_price, precedes, better, best}

-- price p and number n go before price q and number m
abbrev ahead : Side → ℕ → ℕ → ℕ → ℕ → Bool
ahead s p n q m = better_price s p q || eqb p q && ltb n m

-- price p and number n do not go before q and m: the price is worse, or the same and the number no lower
pub data Behind : Side → ℕ → ℕ → ℕ → ℕ → Type 0 where
  lower : {p n q m : ℕ} → p < q → Behind Buy p n q m
  higher : {p n q m : ℕ} → q < p → Behind Sell p n q m
  same : {s : Side} {p n q m : ℕ} → p ≡ q → m ≤ n → Behind s p n q m

level : (s : Side) (p q : ℕ) → p ≡ q → better_price s p q ≡ false
level Buy p q e = le-ltb q p (omega arith)
level Sell p q e = le-ltb p q (omega arith)

not_ahead : {s : Side} {p n q m : ℕ} → Behind s p n q m → ahead s p n q m ≡ false
not_ahead {p = p} {q = q} (lower h) = rw (le-ltb q p (omega arith), ne_eqb p q (omega arith))
not_ahead {p = p} {q = q} (higher h) = rw (le-ltb p q (omega arith), ne_eqb p q (omega arith))
not_ahead {s = s} {p = p} {n = n} {q = q} {m = m} (same e h) = rw (level s p q e, eq-eqb p q e, le-ltb n m h)

-- each is ahead of the other or behind it
by_ahead : (P : Bool → Type 0) (s : Side) (p n q m : ℕ) → (Behind s q m p n → P true) → (Behind s p n q m → P false) → P (ahead s p n q m)
by_ahead P s p n q m f g =
    same_or p q
    (λ e. le_or_lt m n (λ l. rw (level s p q e, eq-eqb p q e, le-ltb n m l) (g (same e l))) (λ l. rw (level s p q e, eq-eqb p q e, lt-ltb n m l) (f (same (sym e) (omega arith)))))
    (λ d. rw (ne_eqb p q d) (apart s d f g))
  where
    apart : (s : Side) → (p ≡ q → ⊥) → (Behind s q m p n → P true) → (Behind s p n q m → P false) → P (better_price s p q || false)
    apart Buy d f g = le_or_lt p q (λ l. rw (le-ltb q p l) (g (lower (omega arith)))) (λ l. rw (lt-ltb q p l) (f (lower l)))
    apart Sell d f g = le_or_lt q p (λ l. rw (le-ltb p q l) (g (higher (omega arith)))) (λ l. rw (lt-ltb p q l) (f (higher l)))

behind_then : {s : Side} {p n q m r k : ℕ} → Behind s p n q m → Behind s q m r k → Behind s p n r k
behind_then {p = p} {r = r} (lower a) (lower b) = let h : p < r = omega arith in lower h
behind_then {p = p} {r = r} (lower a) (same b c) = let h : p < r = omega arith in lower h
behind_then {p = p} {r = r} (higher a) (higher b) = let h : r < p = omega arith in higher h
behind_then {p = p} {r = r} (higher a) (same b c) = let h : r < p = omega arith in higher h
behind_then {p = p} {r = r} (same a c) (lower b) = let h : p < r = omega arith in lower h
behind_then {p = p} {r = r} (same a c) (higher b) = let h : r < p = omega arith in higher h
behind_then {n = n} {k = k} (same a c) (same b d) = let h : k ≤ n = omega arith in same (a ∙ b) h

-- ---- orders of one side
-- b has the priority, or they are the same order
abbrev pub After : Order → Order → Type 0
After a b = Behind a.side a.price.0 a.number b.price.0 b.number

pub by_priority : (P : Bool → Type 0) (a b : Order) → a.side ≡ b.side → (After b a → P true) → (After a b → P false) → P (precedes a b)
unfolding precedes
by_priority P a b e f g =
    by_ahead P a.side a.price.0 a.number b.price.0 b.number
    (λ x. f (subst (λ s. Behind s b.price.0 b.number a.price.0 a.number) e x)) g

pub after_not_before : (a b : Order) → After a b → precedes a b ≡ false
unfolding precedes
after_not_before a b x = not_ahead x

pub after_then : (a b c : Order) → a.side ≡ b.side → After a b → After b c → After a c
after_then a b c e x y = behind_then x (subst (λ s. Behind s b.price.0 b.number c.price.0 c.number) (sym e) y)

-- ---- the best order
pub best_none : (p : Order → Bool) (os : List Order) → best p os ≡ none → All (λ o. p o ≡ false) os
unfolding best
best_none p [] e = tt
best_none p (o ∷ os) e =
    by_bool (λ b. cond b (better o (best p os)) (best p os) ≡ none → (b ≡ false) × All (λ o. p o ≡ false) os) (p o)
    (λ _ f. absurd (some_better o (best p os) f)) (λ _ f. (refl, best_none p os f)) e
  where
    not_none : (b : Order) → some b ≡ none → ⊥
    not_none b e = let z : ◌≡◌ {A = ℕ} 0 1 = cc in omega arith

    some_better : (o : Order) (x : Option Order) → better o x ≡ none → ⊥
    some_better o none f = not_none o f
    some_better o (some b) f = by_bool (λ c. cond c (some b) (some o) ≡ none → ⊥) (precedes b o) (λ _ g. not_none b g) (λ _ g. not_none o g) f

-- what the best of orders of side s shows: it passes, and each that passes is of the side and no better
pub record IsBest (p : Order → Bool) (s : Side) (os : List Order) (r : Order) : Type 0 where
  pub passes : p r ≡ true
  pub side : r.side ≡ s
  pub first : All (λ o. p o ≡ true → (o.side ≡ s) × After o r) os

module _ (p : Order → Bool) (s : Side) where
  -- an order put before those whose best is b
  best_more : (o b r : Order) (os : List Order) → p o ≡ true → o.side ≡ s → IsBest p s os b → better o (some b) ≡ some r → IsBest p s (o ∷ os) r
  best_more o b r os h e i =
      by_priority (λ c. cond c (some b) (some o) ≡ some r → IsBest p s (o ∷ os) r) b o (i.side ∙ sym e)
      (λ x f. let is : b ≡ r = cc in subst (IsBest p s (o ∷ os)) is (record { passes = i.passes; side = i.side; first = (λ _. (e, x), i.first) }))
      (λ x f. let is : o ≡ r = cc in subst (IsBest p s (o ∷ os)) is (record {
        passes = h;
        side = e;
        first = (
          λ _. (e, same refl (omega arith)),
          all_map (λ a. p a ≡ true → (a.side ≡ s) × After a b) (λ a. p a ≡ true → (a.side ≡ s) × After a o) os
              (λ a y q. ((y q).0, after_then a b o ((y q).0 ∙ sym i.side) (y q).1 x)) i.first,
        );
      }))

  -- an order that is the only one to pass
  best_only : (o r : Order) (os : List Order) → p o ≡ true → o.side ≡ s → All (λ a. p a ≡ false) os → better o none ≡ some r → IsBest p s (o ∷ os) r
  best_only o r os h e a f =
      let is : o ≡ r = cc in
      subst (IsBest p s (o ∷ os)) is (record {
        passes = h;
        side = e;
        first = (λ _. (e, same refl (omega arith)), all_map (λ a. p a ≡ false) (λ a. p a ≡ true → (a.side ≡ s) × After a o) os (λ a y q. never (sym q ∙ y)) a);
      })

  pub best_is : (os : List Order) → All (λ o. p o ≡ true → o.side ≡ s) os → (r : Order) → best p os ≡ some r → IsBest p s os r
  unfolding best
  best_is [] h r e = absurd (let z : ◌≡◌ {A = ℕ} 0 1 = cc in omega arith)
  best_is (o ∷ os) h r e =
      by_bool (λ b. p o ≡ b → cond b (better o (best p os)) (best p os) ≡ some r → IsBest p s (o ∷ os) r) (p o)
      (λ _ q f. go (best p os) refl q f (best_is os h.1))
      (λ _ q f. let i = best_is os h.1 r f in record { passes = i.passes; side = i.side; first = (λ t. never (sym t ∙ q), i.first) }) refl e
    where
      go : (x : Option Order) → best p os ≡ x → p o ≡ true → better o x ≡ some r → ((b : Order) → x ≡ some b → IsBest p s os b) → IsBest p s (o ∷ os) r
      go none n q f ih = best_only o r os q (h.0 q) (best_none p os n) f
      go (some b) n q f ih = best_more o b r os q (h.0 q) (ih b refl) f
