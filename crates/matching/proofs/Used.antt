-- Matching over a column of what is left of each order, a deal at a time. Assumes nothing.
use mathlib.Core.Path.{◌≡◌, refl, sym, ap}
use mathlib.Core.Bool.{true, false, cond}
use mathlib.Core.List.{List, [], ◌∷◌}
use mathlib.Core.Option.{Option, none, some}
use Prim.Native.Nat.{ℕ, zero, suc, ◌-◌, ◌≤◌, ◌<◌, min}
use native.Mathlib.Omega.{arith}
use lib.Dec.{eqb, ltb}
use lib.ListN.{length, get_or, set}
use borrow.Author.Tests.{lt-ltb, le-leb, lt-leb, eq-eqb, ne_eqb, eqb-false}
use Rattle.arith.specs.Lists.{All}
use Rattle.arith.proofs.Alls.{all_place}
use Rattle.arith.proofs.Tests.{by_eqb, true_or, le_or_lt}
use Rattle.rules.specs.declared.order.Order.{Order}
use Rattle.rules.specs.Matching.{best, opposes, meets, with_lots, used, stopped, after_deal, matching}
use Rattle.order_book.specs.Left.{left_over}
use Rattle.rules.proofs.Distinct.{Distinct}

-- ---- lots used
other_number : (m n : ℕ) → eqb m n ≡ false → eqb n m ≡ false
other_number m n e = ne_eqb n m (λ z. eqb-false m n e (sym z))

-- of an order that is not among them
used_none : (n q : ℕ) (left : List ℕ) (os : List Order) → All (λ r. eqb n r.number ≡ false) os → used n q (left_over left os) ≡ left_over left os
unfolding used left_over
used_none n q [] [] h = refl
used_none n q [] (r ∷ rs) h = rw (other_number n r.number h.0) (ap (λ l. r ∷ l) (used_none n q [] rs h.1))
used_none n q (p ∷ ps) [] h = refl
used_none n q (p ∷ ps) (r ∷ rs) h =
    by_eqb (λ b. used n q (cond b (left_over ps rs) (with_lots p r ∷ left_over ps rs)) ≡ cond b (left_over ps rs) (with_lots p r ∷ left_over ps rs)) p 0
    (λ _. used_none n q ps rs h.1) (λ _. rw (other_number n r.number h.0) (ap (λ l. with_lots p r ∷ l) (used_none n q ps rs h.1)))

-- of the order at a place
pub used_left : (z : Order) (left : List ℕ) (os : List Order) (i q : ℕ) → length left ≡ length os → Distinct os → i < length os → 0 < get_or left i 0 → q ≤ get_or left i 0
    → used (get_or os i z).number q (left_over left os) ≡ left_over (set left i (get_or left i 0 - q)) os
unfolding used left_over
used_left z [] [] i q e d h n l = absurd (omega arith)
used_left z [] (r ∷ rs) i q e d h n l = absurd (omega arith)
used_left z (p ∷ ps) [] i q e d h n l = absurd (omega arith)
used_left z (p ∷ ps) (r ∷ rs) zero q e d h n l =
    rw (ne_eqb p 0 (λ z. omega arith), eq-eqb r.number r.number refl, used_none r.number q ps rs d.0)
    (le_or_lt p q (λ k. rw (le-leb p q k, eq-eqb (p - q) 0 (omega arith))) (λ k. rw (lt-leb p q k, ne_eqb (p - q) 0 (λ z. omega arith))))
used_left z (p ∷ ps) (r ∷ rs) (suc i) q e d h n l =
    let next = used_left z ps rs i q (omega arith) d.1 (omega arith) n l in
    let other = all_place (λ y. eqb r.number y.number ≡ false) z rs d.0 i (omega arith) in
    by_eqb (λ b. used (get_or rs i z).number q (cond b (left_over ps rs) (with_lots p r ∷ left_over ps rs))
    ≡ cond b (left_over (set ps i (get_or ps i 0 - q)) rs) (with_lots p r ∷ left_over (set ps i (get_or ps i 0 - q)) rs)) p 0
    (λ _. next) (λ _. rw other (ap (λ l. with_lots p r ∷ l) next))

-- ---- where matching stops
module _ (o : Order) (os : List Order) where
  pub stops_empty : (k : ℕ) → matching k (with_lots 0 o) os ≡ stopped (with_lots 0 o) os
  unfolding matching
  stops_empty zero = refl
  stops_empty (suc k) = go (best (opposes (with_lots 0 o)) os) refl
    where
      go : (b : Option Order) → best (opposes (with_lots 0 o)) os ≡ b → matching (suc k) (with_lots 0 o) os ≡ stopped (with_lots 0 o) os
      go none e = rw (e, matching)
      go (some r) e = rw (e, matching)

  pub stops_none : (k : ℕ) → best (opposes o) os ≡ none → matching k o os ≡ stopped o os
  unfolding matching
  stops_none zero e = refl
  stops_none (suc k) e = rw (e, matching)

  pub stops_far : (k : ℕ) (r : Order) → best (opposes o) os ≡ some r → meets o r ≡ false → matching k o os ≡ stopped o os
  unfolding matching
  stops_far zero r e f = refl
  stops_far (suc k) r e f = rw (e, matching) (true_or (ltb 0 o.lots.0) (λ t. rw (t, f)) (λ t. rw t))

  pub deals_best : (k : ℕ) (r : Order) → best (opposes o) os ≡ some r → meets o r ≡ true → 0 < o.lots.0 → (q : ℕ) → q ≡ min o.lots.0 r.lots.0
      → matching (suc k) o os ≡ after_deal (record { resting = r; lots = q }) (matching k (with_lots (o.lots.0 - q) o) (used r.number q os))
  unfolding matching
  deals_best k r e f h q s = rw (s, e, matching) (rw (lt-ltb 0 o.lots.0 h, f))
