-- What matching leads to, by induction over its deals: the orders that rest, the deals, their lines.
use mathlib.Core.Path.{◌≡◌, refl, subst}
use mathlib.Core.Bool.{Bool, true, cond, ◌&&◌}
use mathlib.Core.List.{List, [], ◌∷◌}
use mathlib.Core.Option.{Option, none, some}
use Prim.Native.Nat.{ℕ, zero, suc, ◌-◌, ◌≤◌, ◌<◌, min}
use native.Mathlib.Omega.{arith}
use lib.Dec.{eqb, leb, ltb}
use lib.ListN.{length}
use borrow.Author.Tests.{ltb-true, leb-false}
use Rattle.arith.proofs.Tests.{by_bool, and_left}
use Rattle.arith.specs.Lists.{All}
use Rattle.rules.specs.declared.order.Order.{Order}
use Rattle.rules.specs.Matching.{precedes, better, best, opposes, meets, with_lots, used, Matched, stopped, after_deal, matching}

-- ---- the best order is one of the orders, and passes the test
module _ (P : Order → Type 0) (p : Order → Bool) where
  better_all : (o : Order) (rest : Option Order) (r : Order) → P o → ((b : Order) → rest ≡ some b → P b) → better o rest ≡ some r → P r
  better_all o none r ho hr e = let same : o ≡ r = cc in subst P same ho
  better_all o (some b) r ho hr e =
      by_bool (λ c. cond c (some b) (some o) ≡ some r → P r) (precedes b o) (λ _ f. let same : b ≡ r = cc in subst P same (hr b refl)) (λ _ f. let same : o ≡ r = cc in subst P same ho) e

  pub best_all : (os : List Order) → All (λ o. p o ≡ true → P o) os → (r : Order) → best p os ≡ some r → P r
  unfolding best
  best_all [] h r e = absurd (let z : ◌≡◌ {A = ℕ} 0 1 = cc in omega arith)
  best_all (o ∷ os) h r e =
      by_bool (λ c. cond c (better o (best p os)) (best p os) ≡ some r → P r) (p o)
      (λ c f. better_all o (best p os) r (h.0 c) (λ b g. best_all os h.1 b g) f) (λ c f. best_all os h.1 r f) e

-- ---- used lots leave the other orders and a remainder
module _ (P : Order → Type 0) where
  pub used_all : (n q : ℕ) (os : List Order) → All P os → ((o : Order) → P o → q < o.lots.0 → P (with_lots (o.lots.0 - q) o)) → All P (used n q os)
  unfolding used
  used_all n q [] h f = tt
  used_all n q (o ∷ os) h f =
      by_bool (λ c. All P (cond c (cond (leb o.lots.0 q) (used n q os) (with_lots (o.lots.0 - q) o ∷ used n q os)) (o ∷ used n q os))) (eqb o.number n)
      (λ _. by_bool (λ c. All P (cond c (used n q os) (with_lots (o.lots.0 - q) o ∷ used n q os))) (leb o.lots.0 q) (λ _. used_all n q os h.1 f)
      (λ l. (f o h.0 (leb-false o.lots.0 q l), used_all n q os h.1 f)))
      (λ _. (h.0, used_all n q os h.1 f))

pub used_length : (n q : ℕ) (os : List Order) → length (used n q os) ≤ length os
unfolding used
used_length n q [] = omega arith
used_length n q (o ∷ os) =
    by_bool (λ c. length (cond c (cond (leb o.lots.0 q) (used n q os) (with_lots (o.lots.0 - q) o ∷ used n q os)) (o ∷ used n q os)) ≤ suc (length os)) (eqb o.number n)
    (λ _. by_bool (λ c. length (cond c (used n q os) (with_lots (o.lots.0 - q) o ∷ used n q os)) ≤ suc (length os)) (leb o.lots.0 q) (λ _. omega (arith, used_length n q os))
    (λ _. omega (arith, used_length n q os)))
    (λ _. omega (arith, used_length n q os))

-- ---- induction over the deals
module _ (Q : Order → List Order → Matched → Type 0) (stop : (o : Order) (os : List Order) → Q o os (stopped o os))
    (deal : (o r : Order) (os : List Order) (m : Matched) → best (opposes o) os ≡ some r → 0 < o.lots.0
    → Q (with_lots (o.lots.0 - min o.lots.0 r.lots.0) o) (used r.number (min o.lots.0 r.lots.0) os) m
    → Q o os (after_deal (record { resting = r; lots = min o.lots.0 r.lots.0 }) m)) where
  pub by_deals : (n : ℕ) (o : Order) (os : List Order) → Q o os (matching n o os)
  unfolding matching
  by_deals zero o os = stop o os
  by_deals (suc n) o os = go (best (opposes o) os) refl (λ r. by_deals n (with_lots (o.lots.0 - min o.lots.0 r.lots.0) o) (used r.number (min o.lots.0 r.lots.0) os))
    where
      next : Order → Matched
      next r = matching n (with_lots (o.lots.0 - min o.lots.0 r.lots.0) o) (used r.number (min o.lots.0 r.lots.0) os)

      go : (b : Option Order) → best (opposes o) os ≡ b
          → ((r : Order) → Q (with_lots (o.lots.0 - min o.lots.0 r.lots.0) o) (used r.number (min o.lots.0 r.lots.0) os) (next r))
          → Q o os (matching (suc n) o os)
      go none e ih = rw (e, matching) (stop o os)
      go (some r) e ih = rw (e, matching)
          (by_bool (λ c. Q o os (cond c (after_deal (record { resting = r; lots = min o.lots.0 r.lots.0 }) (next r)) (stopped o os))) (ltb 0 o.lots.0 && meets o r)
          (λ c. deal o r os (next r) e (ltb-true 0 o.lots.0 (and_left _ _ c)) (ih r)) (λ c. stop o os))
