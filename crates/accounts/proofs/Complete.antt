-- Matching deals with the best order as long as it meets the price, and each deal uses an order up or leaves nothing: so it ends where
-- nothing is left or the best order does not meet the price, and then no other does.
use Prim.Native.Nat.{ℕ, zero, suc, ◌-◌, ◌≤◌, ◌<◌, min}
use mathlib.Core.Logic.{◌⊎◌, inl, inr}
use mathlib.Core.Path.{◌≡◌, refl, sym, ap, subst, ◌∙◌}
use mathlib.Core.Bool.{Bool, true, false, cond, ◌&&◌}
use mathlib.Core.List.{List, [], ◌∷◌, ◌++◌, Memᴰ}
use mathlib.Core.Option.{Option, none, some}
use native.Mathlib.Omega.{arith}
use lib.Dec.{eqb, leb, ltb}
use lib.ListN.{length}
use borrow.Author.Tests.{le-leb, lt-leb, leb-false, lt-ltb, le-ltb, eq-eqb}
use Rattle.arith.specs.Lists.{All}
use Rattle.arith.proofs.Alls.{all_map, all_always, all_append, all_there}
use Rattle.arith.proofs.Tests.{never, by_bool, le_or_lt, and_false}
use Rattle.rules.specs.declared.order.Order.{Order}
use Rattle.rules.specs.declared.order.Side.{Side}
use Rattle.rules.specs.declared.order.Side.TheVariants.{Buy, Sell}
use Rattle.rules.specs.declared.event.Event.TheVariants.{Submit}
use Rattle.rules.specs.declared.event.Submission.{Submission}
use Rattle.rules.specs.Ledger.{Tables, orders}
use Rattle.rules.specs.Sides.{same_side, other_side}
use Rattle.rules.specs.Matching.{precedes, best, opposes, meets_price, meets, with_lots, used, Matched, stopped, after_deal, matching, matched, incoming, submit_matched, would_rest, submit_orders}
use Rattle.rules.specs.Refusals.{apply_spec}
use Rattle.accounts.proofs.Matches.{best_all, used_length}
use Rattle.accounts.proofs.Remains.{Remain, remain_all, used_remain, matching_remain, remain_then}
use Rattle.rules.proofs.Priority.{Behind, lower, higher, same, After, after_not_before, best_none, best_is}
use Rattle.accounts.specs.Complete.{AcceptedSubmit, MatchingIsComplete, NobodyIsPassedOver}
use Rattle.accounts.proofs.EachKind.{accepted_call}
use Rattle.accounts.proofs.OrdersAfter.{submit_orders_lem}
use Rattle.rules.proofs.Sides.{opposing_side}

-- ---- what matching ends with
-- r, if it opposes o, is behind the price that o meets
pub record Ends (o : Order) (m : Matched) : Type 0 where
  pub unmet : 0 < m.left → All (λ r. opposes o r ≡ true → meets o r ≡ false) m.resting
  pub passed : All (λ d. All (λ r. opposes o r ≡ true → (r.side ≡ d.resting.side) × After r d.resting) m.resting) m.deals

not_own : (s : Side) → same_side s (other_side s) ≡ false
not_own Buy = refl
not_own Sell = refl

not_both : (a b : Bool) → (a ≡ true → b ≡ false) → a && b ≡ false
not_both true b f = f refl
not_both false b f = refl

-- a price behind one that does not meet p does not meet it either
behind_unmet : (s : Side) (p x n r m : ℕ) → Behind (other_side s) x n r m → meets_price s p r ≡ false → meets_price s p x ≡ false
behind_unmet Buy p x n r m (higher h) e = lt-leb x p (omega (arith, leb-false r p e))
behind_unmet Buy p x n r m (same h k) e = rw h e
behind_unmet Sell p x n r m (lower h) e = lt-leb p x (omega (arith, leb-false p r e))
behind_unmet Sell p x n r m (same h k) e = rw h e

-- nothing is left to match
ends_empty : (o : Order) (os : List Order) → o.lots.0 ≡ 0 → Ends o (stopped o os)
ends_empty o os e = record { unmet = λ h. absurd (omega arith); passed = tt }

matched_none : (n : ℕ) (o : Order) (os : List Order) → o.lots.0 ≡ 0 → matching n o os ≡ stopped o os
unfolding matching
matched_none zero o os e = refl
matched_none (suc n) o os e = go (best (opposes o) os) refl
  where
    go : (b : Option Order) → best (opposes o) os ≡ b → matching (suc n) o os ≡ stopped o os
    go none f = rw (f, matching)
    go (some r) f = rw (f, matching, le-ltb 0 o.lots.0 (omega arith))

-- ---- an order used up leaves the book shorter
used_up : (q : ℕ) (r : Order) (os : List Order) → r.lots.0 ≤ q → Memᴰ r os → length (used r.number q os) < length os
unfolding used
used_up q r [] h m = elim m [ ]
used_up q r (o ∷ os) h (Memᴰ.head e) = rw (← e, eq-eqb r.number r.number refl, le-leb r.lots.0 q h) (omega (arith, used_length r.number q os))
used_up q r (o ∷ os) h (Memᴰ.tail m) =
    let rest = used r.number q os in
    let shorter = used_up q r os h m in
    by_bool (λ b. length (cond b (cond (leb o.lots.0 q) rest (with_lots (o.lots.0 - q) o ∷ rest)) (o ∷ rest)) < suc (length os)) (eqb o.number r.number)
    (λ _. by_bool (λ b. length (cond b rest (with_lots (o.lots.0 - q) o ∷ rest)) < suc (length os)) (leb o.lots.0 q) (λ _. omega arith) (λ _. omega arith)) (λ _. omega arith)

-- ---- one deal, with the best order r
module _ (o r : Order) (os : List Order) (is : best (opposes o) os ≡ some r) where
  opposing : All (λ x. opposes o x ≡ true → x.side ≡ other_side o.side) os
  opposing = all_always (λ x. opposes o x ≡ true → x.side ≡ other_side o.side) os (opposing_side o)

  -- each that opposes is behind it
  abbrev Worse : Order → Type 0
  Worse x = opposes o x ≡ true → (x.side ≡ r.side) × After x r

  worse : All Worse os
  worse =
      let b = best_is (opposes o) (other_side o.side) os opposing r is in
      all_map (λ x. opposes o x ≡ true → (x.side ≡ other_side o.side) × After x r) Worse os (λ x f h. ((f h).0 ∙ sym b.side, (f h).1)) b.first

  best_unmet : meets o r ≡ false → All (λ x. opposes o x ≡ true → meets o x ≡ false) os
  unfolding meets
  best_unmet e =
      all_map Worse (λ x. opposes o x ≡ true → meets o x ≡ false) os
      (λ x f h. behind_unmet o.side o.price.0 x.price.0 x.number r.price.0 r.number
      (subst (λ s. Behind s x.price.0 x.number r.price.0 r.number) (opposing_side o x h) (f h).1) e) worse

  there : Memᴰ r os
  there = best_all (λ x. Memᴰ x os) (opposes o) os (all_map (λ x. Memᴰ x os) (λ x. opposes o x ≡ true → Memᴰ x os) os (λ x m _. m) (all_there os)) r is

  -- what is left of orders that are no better is no better
  worse_left : (os' : List Order) → Remain os os' → All Worse os'
  unfolding opposes
  worse_left os' x = remain_all Worse Worse (λ b q u v f. f) x worse

  deal_ends : (q : ℕ) (m : Matched) → Remain os m.resting → Ends (with_lots (o.lots.0 - q) o) m → Ends o (after_deal (record { resting = r; lots = q }) m)
  unfolding opposes meets
  deal_ends q m x e = record { unmet = e.unmet; passed = (worse_left m.resting x, e.passed) }

  -- the order is used up, or nothing is left to match
  next_ends : (n : ℕ) → length os ≤ suc n → ((o' : Order) (os' : List Order) → length os' ≤ n → Ends o' (matching n o' os'))
      → let q = min o.lots.0 r.lots.0 in
      let o' = with_lots (o.lots.0 - q) o in
      Ends o' (matching n o' (used r.number q os))
  next_ends n h ih =
      let q = min o.lots.0 r.lots.0 in
      let o' = with_lots (o.lots.0 - q) o in
      let os' = used r.number q os in
      le_or_lt r.lots.0 o.lots.0 (λ l. ih o' os' (omega (arith, used_up q r os (omega arith) there)))
      (λ l. subst (Ends o') (sym (matched_none n o' os' (omega arith))) (ends_empty o' os' (omega arith)))

pub matching_ends : (n : ℕ) (o : Order) (os : List Order) → length os ≤ n → Ends o (matching n o os)
unfolding matching
matching_ends zero o [] h = record { unmet = λ _. tt; passed = tt }
matching_ends zero o (x ∷ os) h = absurd (omega arith)
matching_ends (suc n) o os h = go (best (opposes o) os) refl (λ o' os' k. matching_ends n o' os' k)
  where
    go : (b : Option Order) → best (opposes o) os ≡ b → ((o' : Order) (os' : List Order) → length os' ≤ n → Ends o' (matching n o' os')) → Ends o (matching (suc n) o os)
    go none f ih = rw (f, matching)
        (record { unmet = λ _. all_map (λ x. opposes o x ≡ false) (λ x. opposes o x ≡ true → meets o x ≡ false) os (λ x a b. never (sym b ∙ a)) (best_none (opposes o) os f); passed = tt })
    go (some r) f ih =
        let q = min o.lots.0 r.lots.0 in
        let o' = with_lots (o.lots.0 - q) o in
        let os' = used r.number q os in
        let next = matching n o' os' in
        rw (f, matching)
        (by_bool (λ c. Ends o (cond c (after_deal (record { resting = r; lots = q }) next) (stopped o os))) (ltb 0 o.lots.0 && meets o r)
        (λ _. deal_ends o r os f q next (remain_then (used_remain r.number q os) (matching_remain n o' os')) (next_ends o r os f n h ih))
        (λ e. record { unmet = λ l. best_unmet o r os f (ap (λ b. b && meets o r) (sym (lt-ltb 0 o.lots.0 l)) ∙ e); passed = tt }))

-- ---- an accepted submit
module _ (t : Tables) (e : Submission) where
  abbrev new : Order
  new = incoming t e

  abbrev m : Matched
  m = submit_matched t e

  pub submit_ends : Ends new m
  unfolding submit_matched matched
  submit_ends = matching_ends (length (orders t)) new (orders t) (omega arith)

  -- what holds of the orders that rest after the deals, and of the remainder, holds of all
  pub submit_all : (P : Order → Type 0) → All P m.resting → (would_rest t e ≡ true → P (with_lots m.left new)) → All P (submit_orders t e)
  unfolding submit_orders
  submit_all P a f =
      by_bool (λ b. All P (cond b (m.resting ++ (with_lots m.left new ∷ [])) m.resting)) (would_rest t e)
      (λ w. all_append P m.resting (with_lots m.left new ∷ []) a (f w, tt)) (λ _. a)

  -- the remainder does not oppose its own order
  own_side : (q : ℕ) → opposes new (with_lots q new) ≡ false
  unfolding opposes
  own_side q = rw (not_own e.side) (and_false (eqb e.contract e.contract))

  opposing_none : (f : Order → Bool) → All (λ r. opposes new r ≡ true → f r ≡ false) m.resting → All (λ r. opposes new r && f r ≡ false) (submit_orders t e)
  opposing_none f a =
      submit_all (λ r. opposes new r && f r ≡ false) (all_map (λ r. opposes new r ≡ true → f r ≡ false) (λ r. opposes new r && f r ≡ false) m.resting (λ r. not_both (opposes new r) (f r)) a)
      (λ _. rw (own_side m.left))

module _ (t : Tables) (bytes : List ℕ) (e : Submission) (a : AcceptedSubmit t bytes (apply_spec t bytes) e) where
  -- the orders after it
  now : orders (apply_spec t bytes).after ≡ submit_orders t e
  now = let c = accepted_call t bytes (Submit e) a.0 a.1 in ap (λ o. orders o.after) c.leads ∙ submit_orders_lem t c.tables e

  complete : ((submit_matched t e).left ≡ 0) ⊎ All (λ r. opposes (incoming t e) r && meets (incoming t e) r ≡ false) (orders (apply_spec t bytes).after)
  complete =
      le_or_lt (submit_matched t e).left 0 (λ l. inl (omega arith))
      (λ l. inr (rw now (opposing_none t e (meets (incoming t e)) ((submit_ends t e).unmet l))))

  not_passed : All (λ deal. All (λ r. opposes (incoming t e) r && precedes r deal.resting ≡ false) (orders (apply_spec t bytes).after)) (submit_matched t e).deals
  not_passed =
      let o = incoming t e in
      let m = submit_matched t e in
      rw now
      (all_map (λ d. All (λ r. opposes o r ≡ true → (r.side ≡ d.resting.side) × After r d.resting) m.resting)
      (λ d. All (λ r. opposes o r && precedes r d.resting ≡ false) (submit_orders t e)) m.deals
      (λ d x. opposing_none t e (λ r. precedes r d.resting)
      (all_map (λ r. opposes o r ≡ true → (r.side ≡ d.resting.side) × After r d.resting) (λ r. opposes o r ≡ true → precedes r d.resting ≡ false) m.resting
      (λ r f h. after_not_before r d.resting (f h).1) x))
      (submit_ends t e).passed)

pub matching_is_complete : MatchingIsComplete
matching_is_complete = complete

pub nobody_is_passed_over : NobodyIsPassedOver
nobody_is_passed_over = not_passed
