-- The head of an accepted submit: its time, its counts, and what stays. Assumes nothing.
use mathlib.Core.Path.{◌≡◌, refl, ◌∙◌}
use mathlib.Core.Bool.{cond}
use Prim.Native.Nat.{ℕ, ◌+◌, ◌≤◌, ◌<◌}
use native.Mathlib.Omega.{arith}
use lib.Dec.{ltb}
use lib.ListN.{length, get_or, set, replicate, length-set, length-replicate, get_or-replicate}
use lib.Seq.{get_or-set_other}
use Rattle.arith.proofs.Overs.{over_inside}
use Rattle.arith.proofs.Tests.{by_bool}
use Rattle.rules.specs.Ranges.{most_members}
use Rattle.rules.specs.Ledger.{Tables, with_head, members, time, submits_this_second, head_length, timed, without_submits, time_place, submits_from}
use Rattle.rules.specs.Matching.{submits_at, counted}
use Rattle.tables.proofs.Heads.{timed_length, timed_place}

-- In a later second nobody has submitted yet.
pub timed_submits : (s : ℕ) (t : Tables) (m : ℕ) → head_length ≤ length t.head → members t ≤ most_members → m < members t → submits_this_second (timed s t) m ≡ submits_at t s m
unfolding timed without_submits submits_at
timed_submits s t m long few h =
    by_bool (λ b. get_or (cond b (with_head (set (without_submits t).head time_place s) t) t).head (submits_from + m) 0 ≡ cond b 0 (submits_this_second t m)) (ltb (time t) s)
    (λ _. get_or-set_other (without_submits t).head time_place (submits_from + m) s 0 (λ z. omega arith)
    ∙ over_inside submits_from (replicate (members t) 0) t.head (omega (arith, length-replicate {A = ℕ} (members t) 0)) m 0 (omega (arith, length-replicate {A = ℕ} (members t) 0))
    ∙ get_or-replicate (members t) m 0 0 h)
    (λ _. refl)

-- ---- what counting and the clock leave
module _ (s : ℕ) (t : Tables) (m : ℕ) (long : head_length ≤ length t.head) (few : members t ≤ most_members) (h : m < members t) where
  pub counted_length : length (counted m (timed s t)).head ≡ length t.head
  unfolding counted
  counted_length = length-set (set (timed s t).head (submits_from + m) _) 5 _ ∙ length-set (timed s t).head (submits_from + m) _ ∙ timed_length s t long few

  pub counted_place : (i : ℕ) → i < submits_from → (i ≡ time_place → ⊥) → (i ≡ 5 → ⊥) → get_or (counted m (timed s t)).head i 0 ≡ get_or t.head i 0
  unfolding counted
  counted_place i below other next =
      get_or-set_other (set (timed s t).head (submits_from + m) _) 5 i _ 0 next ∙ get_or-set_other (timed s t).head (submits_from + m) i _ 0 (λ z. omega arith)
      ∙ timed_place s t long few i below other
