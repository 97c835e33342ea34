-- The resting orders after each kind of record: a submit may add its own, any other leaves what remains of them.
use Prim.Native.Nat.{ℕ, ◌<◌}
use mathlib.Core.Path.{◌≡◌, refl, ap, ◌∙◌}
use mathlib.Core.Bool.{Bool, not}
use mathlib.Core.List.{List, []}
use native.Mathlib.Omega.{arith}
use lib.Dec.{eqb}
use lib.ListN.{length, length-set}
use Rattle.arith.specs.Lists.{kept}
use Rattle.rules.specs.declared.event.CloseOutTerms.{CloseOutTerms}
use Rattle.rules.specs.declared.event.Leg.{Leg}
use Rattle.rules.specs.declared.event.Submission.{Submission}
use Rattle.rules.specs.declared.order.Order.{Order}
use Rattle.rules.specs.Ledger.{Tables, Line, with_prices, orders, with_orders, booked, timed, order_count_place}
use Rattle.rules.specs.Matching.{submit_lines, submit_orders, with_deals, counted, submit_booked}
use Rattle.rules.specs.Synthetic.{proposal_lines, used_by_legs, proposal_booked}
use Rattle.rules.specs.CloseOfDay.{closing_contracts, is_of_any, with_closed, priced, on_day, close_booked}
use Rattle.rules.specs.Default.{default_booked, close_out_lines, close_out_booked}
use Rattle.rules.proofs.SoundTables.{Undamaged}
use Rattle.accounts.proofs.Runs.{sound_of, orders_same, timed_same}
use Rattle.accounts.proofs.Written.{orders_written}
use Rattle.accounts.proofs.Remains.{Remain, remain_same, kept_remain, legs_remain}
use Rattle.accounts.proofs.Books.{booked_place}
use Rattle.accounts.proofs.Places.{evening_place}

-- booking lines leaves the book
pub booked_orders : (ls : List Line) (u : Tables) → orders (booked ls u).after ≡ orders u
unfolding booked
booked_orders ls u = orders_same u (booked ls u).after (booked_place ls u order_count_place (λ e. omega arith)) refl

pub written_orders : (ls : List Line) (os : List Order) (u : Tables) → order_count_place < length u.head → orders (booked ls (with_orders os u)).after ≡ os
written_orders ls os u h = booked_orders ls (with_orders os u) ∙ orders_written os u h

module _ (t : Tables) (u : Undamaged t) where
  pub timed_long : (n : ℕ) → order_count_place < length (timed n t).head
  timed_long n = omega (arith, (timed_same n t (sound_of u)).longer, u.long.head)

  pub submit_orders_lem : (e : Submission) → orders (submit_booked t e).after ≡ submit_orders t e
  unfolding submit_booked with_deals counted
  submit_orders_lem e = written_orders (submit_lines t e) (submit_orders t e) _ (simp length-set (timed_long e.time))

  pub cancel_orders : (n : ℕ) (p : Order → Bool) → orders (booked [] (with_orders (kept p (orders t)) (timed n t))).after ≡ kept p (orders t)
  cancel_orders n p = written_orders [] (kept p (orders t)) (timed n t) (timed_long n)

  pub limits_orders : (l : List ℕ) → orders (booked [] (with_prices l t)).after ≡ orders t
  limits_orders l = booked_orders [] (with_prices l t) ∙ orders_same t (with_prices l t) refl refl

  pub proposal_orders : (legs : List Leg) → orders (proposal_booked t legs).after ≡ used_by_legs legs (orders t)
  unfolding proposal_booked
  proposal_orders legs = written_orders (proposal_lines t legs) (used_by_legs legs (orders t)) t (omega (arith, u.long.head))

  pub default_orders : (m : ℕ) → orders (default_booked t m).after ≡ kept (λ o. not (eqb o.member m)) (orders t)
  unfolding default_booked
  default_orders m = written_orders [] (kept (λ o. not (eqb o.member m)) (orders t)) _ (simp length-set (omega (arith, u.long.head)))

  pub close_out_orders : (e : CloseOutTerms) → orders (close_out_booked t e).after ≡ orders t
  unfolding close_out_booked
  close_out_orders e = booked_orders (close_out_lines t e) t

  pub close_orders : (n : ℕ) → orders (close_booked t n).after ≡ kept (λ o. not (is_of_any (closing_contracts t) o)) (orders t)
  unfolding close_booked priced on_day with_closed
  close_orders n =
      let p = priced n t in
      let others : Order → Bool = λ o. not (is_of_any (closing_contracts t) o) in
      let v = with_orders (kept others (orders p)) p in
      orders_same v (close_booked t n).after (evening_place t u n order_count_place (omega arith) (omega arith)) refl ∙ orders_written (kept others (orders p)) p (omega (arith, u.long.head))
      ∙ ap (kept others) (orders_same t p refl refl)

  -- any other record than a submit
  pub cancel_remain : (n : ℕ) (p : Order → Bool) → Remain (orders t) (orders (booked [] (with_orders (kept p (orders t)) (timed n t))).after)
  cancel_remain n p = rw (cancel_orders n p) (kept_remain p (orders t))

  pub limits_remain : (l : List ℕ) → Remain (orders t) (orders (booked [] (with_prices l t)).after)
  limits_remain l = rw (limits_orders l) (remain_same (orders t))

  pub proposal_remain : (legs : List Leg) → Remain (orders t) (orders (proposal_booked t legs).after)
  proposal_remain legs = rw (proposal_orders legs) (legs_remain legs (orders t))

  pub default_remain : (m : ℕ) → Remain (orders t) (orders (default_booked t m).after)
  default_remain m = rw (default_orders m) (kept_remain _ (orders t))

  pub close_out_remain : (e : CloseOutTerms) → Remain (orders t) (orders (close_out_booked t e).after)
  close_out_remain e = rw (close_out_orders e) (remain_same (orders t))

  pub close_remain : (n : ℕ) → Remain (orders t) (orders (close_booked t n).after)
  close_remain n = rw (close_orders n) (kept_remain _ (orders t))
