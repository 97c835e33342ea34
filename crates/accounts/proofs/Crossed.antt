-- The book is never crossed: what remains of an uncrossed book is uncrossed, and an order rests only where none that opposes it meets its price.
use Prim.Native.Nat.{ℕ}
use mathlib.Core.Path.{◌≡◌, refl, sym}
use mathlib.Core.Bool.{true, false, cond}
use mathlib.Core.List.{List, [], ◌∷◌, ◌++◌}
use native.Mathlib.Omega.{arith}
use lib.Dec.{ltb}
use lib.ListN.{length}
use borrow.Author.Tests.{leb-false, ltb-true, eq-eqb}
use Rattle.arith.specs.Lists.{All}
use Rattle.arith.proofs.Alls.{all_map, all_both, all_append}
use Rattle.arith.proofs.Tests.{by_bool, and_right}
use Rattle.rules.specs.declared.event.Submission.{Submission}
use Rattle.rules.specs.declared.order.Order.{Order}
use Rattle.rules.specs.Ledger.{Tables, orders}
use Rattle.rules.specs.Matching.{opposes, meets, with_lots, matched, incoming, submit_matched, is_resting, would_rest, submit_orders, submit_booked}
use Rattle.rules.proofs.SoundTables.{Undamaged}
use Rattle.accounts.specs.EveryList.{Below, Uncrossed}
use Rattle.accounts.proofs.Remains.{Remain, remain_all, matching_remain}
use Rattle.accounts.proofs.OrdersAfter.{submit_orders_lem}
use Rattle.accounts.proofs.Complete.{submit_ends}

-- ---- fewer orders, or with fewer lots
pub remain_uncrossed : {os ls : List Order} → Remain os ls → Uncrossed os → Uncrossed ls
remain_uncrossed {os} {ls} x a =
    remain_all (λ b. All (Below b) os) (λ b. All (Below b) ls) (λ b q u v f. remain_all (Below b) (Below b) (λ s p y z g. g) x f) x a

-- ---- an order that rests
-- o does not meet r, whichever of them is the buy
module _ (o r : Order) (unmet : opposes o r ≡ true → meets o r ≡ false) where
  buy_below : Below o r
  unfolding opposes meets
  buy_below s z c = leb-false r.price.0 o.price.0 (rw (s, z, eq-eqb r.contract o.contract (sym c)) at unmet refl)

  sell_above : Below r o
  unfolding opposes meets
  sell_above s z c = leb-false o.price.0 r.price.0 (rw (z, s, eq-eqb r.contract o.contract c) at unmet refl)

not_itself : (o : Order) → Below o o
not_itself o s z c = absurd (let z : ◌≡◌ {A = ℕ} 0 1 = cc in omega arith)

uncrossed_more : (os : List Order) (o : Order) → Uncrossed os → All (λ r. opposes o r ≡ true → meets o r ≡ false) os → Uncrossed (os ++ (o ∷ []))
uncrossed_more os o a u =
    let more = os ++ (o ∷ []) in
    let sells = all_map (λ r. opposes o r ≡ true → meets o r ≡ false) (Below o) os (buy_below o) u in
    all_append (λ b. All (Below b) more) os (o ∷ [])
    (all_map (λ b. All (Below b) os × (opposes o b ≡ true → meets o b ≡ false)) (λ b. All (Below b) more) os
    (λ b f. all_append (Below b) os (o ∷ []) f.0 (sell_above o b f.1, tt)) (all_both (λ b. All (Below b) os) (λ b. opposes o b ≡ true → meets o b ≡ false) os a u))
    (all_append (Below o) os (o ∷ []) sells (not_itself o, tt), tt)

orders_uncrossed : (t : Tables) (e : Submission) → Uncrossed (orders t) → Uncrossed (submit_orders t e)
unfolding submit_orders submit_matched matched would_rest opposes meets
orders_uncrossed t e a =
    let o = incoming t e in
    let m = submit_matched t e in
    let rest = remain_uncrossed (matching_remain (length (orders t)) o (orders t)) a in
    by_bool (λ b. Uncrossed (cond b (m.resting ++ (with_lots m.left o ∷ [])) m.resting)) (would_rest t e)
    (λ w. uncrossed_more m.resting (with_lots m.left o) rest ((submit_ends t e).unmet (ltb-true 0 m.left (and_right (is_resting e.kind) (ltb 0 m.left) w)))) (λ _. rest)

pub submit_uncrossed : (t : Tables) → Undamaged t → (e : Submission) → Uncrossed (orders t) → Uncrossed (orders (submit_booked t e).after)
submit_uncrossed t u e a = rw (submit_orders_lem t u e) (orders_uncrossed t e a)
