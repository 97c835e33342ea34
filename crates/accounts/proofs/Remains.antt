-- What is left of the resting orders when some are taken out or used: fewer, each with its number, no two with the same.
use mathlib.Core.Path.{◌≡◌, refl}
use mathlib.Core.Bool.{Bool, true, false, cond}
use mathlib.Core.List.{List, [], ◌∷◌, ◌++◌, map}
use Prim.Native.Nat.{ℕ, ◌+◌, ◌-◌, ◌≤◌, ◌<◌}
use native.Mathlib.Omega.{arith}
use lib.Dec.{eqb, leb}
use lib.ListN.{length}
use borrow.Author.Tests.{leb-false}
use Rattle.arith.specs.Lists.{All, any, kept, total}
use Rattle.arith.proofs.Alls.{all_map, all_append}
use Rattle.arith.proofs.Tests.{by_bool}
use Rattle.rules.specs.declared.event.Leg.{Leg}
use Rattle.rules.specs.declared.order.Order.{Order}
use Rattle.rules.specs.Matching.{opposes, with_lots, used, matching}
use Rattle.rules.specs.Refusals.{distinct}
use Rattle.rules.specs.Synthetic.{used_by_legs}
use Rattle.accounts.specs.EveryList.{RisingNumbers}
use Rattle.accounts.proofs.Matches.{best_all, by_deals}
use Rattle.rules.proofs.Distinct.{Distinct}

-- ---- what is left of orders: some are gone, others rest with all of their lots or some
pub data Remain : List Order → List Order → Type 0 where
  nothing : Remain [] []
  gone : {o : Order} {os ls : List Order} → Remain os ls → Remain (o ∷ os) ls
  rests : {o : Order} {os ls : List Order} (q : ℕ) → (0 < o.lots.0 → 0 < q) → q ≤ o.lots.0 → Remain os ls → Remain (o ∷ os) (with_lots q o ∷ ls)

pub remain_same : (os : List Order) → Remain os os
remain_same [] = nothing
remain_same (o ∷ os) = rests o.lots.0 (λ p. p) (omega arith) (remain_same os)

pub remain_then : {os ls ms : List Order} → Remain os ls → Remain ls ms → Remain os ms
remain_then nothing nothing = nothing
remain_then (gone x) y = gone (remain_then x y)
remain_then (rests q a b x) (gone y) = gone (remain_then x y)
remain_then (rests q a b x) (rests p c d y) = rests p (λ l. c (a l)) (omega arith) (remain_then x y)

pub remain_length : {os ls : List Order} → Remain os ls → length ls ≤ length os
remain_length nothing = omega arith
remain_length (gone x) = omega (arith, remain_length x)
remain_length (rests q a b x) = omega (arith, remain_length x)

-- what holds of each order, P, with fewer lots, Q
pub remain_all : (P Q : Order → Type 0) → ((o : Order) (q : ℕ) → (0 < o.lots.0 → 0 < q) → q ≤ o.lots.0 → P o → Q (with_lots q o))
    → {os ls : List Order} → Remain os ls → All P os → All Q ls
remain_all P Q keep nothing h = tt
remain_all P Q keep (gone x) h = remain_all P Q keep x h.1
remain_all P Q keep (rests {o = o} q a b x) h = (keep o q a b h.0, remain_all P Q keep x h.1)

-- ---- no two share a number
pub remain_distinct : {os ls : List Order} → Remain os ls → Distinct os → Distinct ls
remain_distinct nothing d = tt
remain_distinct (gone x) d = remain_distinct x d.1
remain_distinct (rests {o = o} q a b x) d =
    (remain_all (λ y. eqb o.number y.number ≡ false) (λ y. eqb o.number y.number ≡ false) (λ y p u v e. e) x d.0, remain_distinct x d.1)

-- one more order, with a number that none has
pub distinct_more : (os : List Order) (n : Order) → All (λ o. eqb o.number n.number ≡ false) os → Distinct os → Distinct (os ++ (n ∷ []))
distinct_more [] n h d = (tt, tt)
distinct_more (o ∷ os) n h d = (all_append (λ x. eqb o.number x.number ≡ false) os (n ∷ []) d.0 (h.0, tt), distinct_more os n h.1 d.1)

-- ---- their numbers rise
pub remain_rising : {os ls : List Order} → Remain os ls → RisingNumbers os → RisingNumbers ls
remain_rising nothing d = tt
remain_rising (gone x) d = remain_rising x d.1
remain_rising (rests {o = o} q a b x) d =
    (remain_all (λ y. o.number < y.number) (λ y. o.number < y.number) (λ y p u v e. e) x d.0, remain_rising x d.1)

-- one more order, with a number above all
pub rising_more : (os : List Order) (n : Order) → All (λ o. o.number < n.number) os → RisingNumbers os → RisingNumbers (os ++ (n ∷ []))
rising_more [] n h d = (tt, tt)
rising_more (o ∷ os) n h d = (all_append (λ x. o.number < x.number) os (n ∷ []) d.0 (h.0, tt), rising_more os n h.1 d.1)

-- ---- what the test of numbers says
same_none : (n : ℕ) (os : List Order) → All (λ x. eqb n x.number ≡ false) os → any (eqb n) (map (λ o. o.number) os) ≡ false
unfolding any
same_none n [] h = refl
same_none n (o ∷ os) h = rw h.0 (same_none n os h.1)

pub orders_distinct : (os : List Order) → Distinct os → distinct (map (λ o. o.number) os) ≡ true
unfolding distinct
orders_distinct [] d = refl
orders_distinct (o ∷ os) d = rw (same_none o.number os d.0) (orders_distinct os d.1)

-- ---- what is done with orders
pub kept_remain : (p : Order → Bool) (os : List Order) → Remain os (kept p os)
unfolding kept
kept_remain p [] = nothing
kept_remain p (o ∷ os) =
    by_bool (λ b. Remain (o ∷ os) (cond b (o ∷ kept p os) (kept p os))) (p o) (λ _. rests o.lots.0 (λ l. l) (omega arith) (kept_remain p os))
    (λ _. gone (kept_remain p os))

pub used_remain : (n q : ℕ) (os : List Order) → Remain os (used n q os)
unfolding used
used_remain n q [] = nothing
used_remain n q (o ∷ os) =
    let rest = used n q os in
    let part = with_lots (o.lots.0 - q) o ∷ rest in
    by_bool (λ b. Remain (o ∷ os) (cond b (cond (leb o.lots.0 q) rest part) (o ∷ rest))) (eqb o.number n)
    (λ _. by_bool (λ b. Remain (o ∷ os) (cond b rest part)) (leb o.lots.0 q) (λ _. gone (used_remain n q os))
    (λ e. let more = leb-false o.lots.0 q e in rests (o.lots.0 - q) (λ l. omega arith) (omega arith) (used_remain n q os)))
    (λ _. rests o.lots.0 (λ l. l) (omega arith) (used_remain n q os))

pub legs_remain : (gs : List Leg) (os : List Order) → Remain os (used_by_legs gs os)
unfolding used_by_legs
legs_remain [] os = remain_same os
legs_remain (g ∷ gs) os = remain_then (used_remain g.order g.lots.0 os) (legs_remain gs (used g.order g.lots.0 os))

pub matching_remain : (n : ℕ) (o : Order) (os : List Order) → Remain os (matching n o os).resting
matching_remain = by_deals (λ o os m. Remain os m.resting) (λ o os. remain_same os) (λ o r os m e l ih. remain_then (used_remain r.number _ os) ih)

-- ---- the deals of an incoming order
-- their lots and what is left are its lots
pub deals_total : (n : ℕ) (o : Order) (os : List Order) → total (λ d. d.lots) (matching n o os).deals + (matching n o os).left ≡ o.lots.0
unfolding total
deals_total = by_deals (λ o os m. total (λ d. d.lots) m.deals + m.left ≡ o.lots.0) (λ o os. omega arith) (λ o r os m e l ih. omega arith)

-- of orders with one lot at least, each deal is of one lot at least, so they are no more than its lots
abbrev pub HasLots : Order → Type 0
HasLots o = 0 < o.lots.0

pub deals_few : (n : ℕ) (o : Order) (os : List Order) → All HasLots os → length (matching n o os).deals + (matching n o os).left ≤ o.lots.0
deals_few =
    by_deals (λ o os m. All HasLots os → length m.deals + m.left ≤ o.lots.0) (λ o os a. omega arith)
    (λ o r os m e l ih a.
    let resting-lots = best_all HasLots (opposes o) os (all_map HasLots (λ b. opposes o b ≡ true → HasLots b) os (λ b p _. p) a) r e in
    omega (arith, ih (remain_all HasLots HasLots (λ b q u v p. u p) (used_remain r.number _ os) a)))
