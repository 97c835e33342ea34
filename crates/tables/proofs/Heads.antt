-- What a change of one part of the head leaves of the rest. Assumes nothing.
use mathlib.Core.Path.{◌≡◌, refl, ◌∙◌}
use mathlib.Core.Bool.{cond}
use mathlib.Core.List.{List}
use Prim.Native.Nat.{ℕ, ◌+◌, ◌≤◌, ◌<◌}
use native.Mathlib.Omega.{arith}
use lib.Dec.{ltb}
use lib.ListN.{length, get_or, set, replicate, length-set, length-replicate}
use lib.Seq.{get_or-set_other}
use Rattle.arith.proofs.Overs.{over_length, over_outside}
use Rattle.arith.proofs.Tests.{by_bool}
use Rattle.rules.specs.Ranges.{most_members}
use Rattle.rules.specs.Ledger.{Tables, with_head, members, time, head_length, timed, without_submits, time_place, submits_from}
use Rattle.tables.specs.Fit.{HeadFit, BookFit, OrdersFit, order_count_in}

-- The orders of an undamaged book.
pub orders_fit : (head book : List ℕ) → HeadFit head → BookFit head book → OrdersFit (order_count_in head) book
orders_fit head book h b =
    record {
      most_orders_holds = h.most_orders_holds;
      long = b.long;
      most_side = λ i k. (b.order_fit i k).most_side;
      least_lots = λ i k. (b.order_fit i k).least_lots;
    }

-- A record's time changes its own place and the counts of the present second.
module _ (s : ℕ) (t : Tables) (long : head_length ≤ length t.head) (few : members t ≤ most_members) where
  cleared : submits_from + length {A = ℕ} (replicate (members t) 0) ≤ length t.head
  cleared = omega (arith, length-replicate {A = ℕ} (members t) 0)

  pub timed_length : length (timed s t).head ≡ length t.head
  unfolding timed without_submits
  timed_length =
      by_bool (λ b. length (cond b (with_head (set (without_submits t).head time_place s) t) t).head ≡ length t.head) (ltb (time t) s)
      (λ _. length-set (without_submits t).head time_place s ∙ over_length submits_from (replicate (members t) 0) t.head cleared) (λ _. refl)

  pub timed_place : (i : ℕ) → i < submits_from → (i ≡ time_place → ⊥) → get_or (timed s t).head i 0 ≡ get_or t.head i 0
  unfolding timed without_submits
  timed_place i below other =
      by_bool (λ b. get_or (cond b (with_head (set (without_submits t).head time_place s) t) t).head i 0 ≡ get_or t.head i 0) (ltb (time t) s)
      (λ _. get_or-set_other (without_submits t).head time_place i s 0 other
      ∙ over_outside submits_from (replicate (members t) 0) t.head cleared i 0 (λ h. absurd (omega arith))) (λ _. refl)
