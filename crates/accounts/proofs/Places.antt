-- The places of the head that a record leaves as they were.
use Prim.Native.Nat.{ℕ, ◌+◌, ◌≤◌, ◌<◌}
use mathlib.Core.Path.{◌≡◌, refl, ◌∙◌}
use mathlib.Core.Bool.{not, cond}
use mathlib.Core.List.{List}
use native.Mathlib.Omega.{arith}
use lib.Dec.{ltb}
use lib.ListN.{length, get_or, set}
use lib.Seq.{get_or-set_other}
use Rattle.arith.specs.Lists.{kept}
use Rattle.arith.proofs.Tests.{by_bool}
use Rattle.rules.specs.Ranges.{most_members}
use Rattle.rules.specs.Ledger.{submits_from, members_place, time_place, accepted_submits_place, order_count_place}
use Rattle.rules.specs.declared.event.Submission.{Submission}
use Rattle.rules.specs.declared.order.Order.{Order}
use Rattle.rules.specs.Ledger.{Tables, members, time, with_head, orders, with_orders, without_submits, timed}
use Rattle.rules.specs.Matching.{submit_orders, with_deals, counted}
use Rattle.rules.specs.CloseOfDay.{closing_contracts, is_of_any, with_closed, priced, next_day, close_booked}
use Rattle.rules.proofs.SoundTables.{Undamaged}
use Rattle.accounts.proofs.Heads.{SameHeader, field}
use Rattle.accounts.proofs.HeadStays.{submit_unbooked}
use Rattle.accounts.proofs.Books.{written_header, without_place, day_place_lem}

abbrev pub place : Tables → ℕ → ℕ
place t i = get_or t.head i 0

pub written_place : (os : List Order) (u : Tables) (i : ℕ) → (i ≡ order_count_place → ⊥) → place (with_orders os u) i ≡ place u i
unfolding with_orders
written_place os u i d = get_or-set_other u.head order_count_place i (length os) 0 d

module _ (t : Tables) (u : Undamaged t) where
  -- a record's time is written, and the second's counts
  pub timed_place : (n i : ℕ) → (i ≡ time_place → ⊥) → i < submits_from → place (timed n t) i ≡ place t i
  unfolding timed
  timed_place n i d h =
      by_bool (λ b. place (cond b (with_head (set (without_submits t).head time_place n) t) t) i ≡ place t i) (ltb (time t) n)
      (λ _. get_or-set_other (without_submits t).head time_place i n 0 d ∙ without_place t i u.long.head u.head.members_range.to h) (λ _. refl)

  pub submit_place : (e : Submission) (i : ℕ) → (i ≡ time_place → ⊥) → (i ≡ accepted_submits_place → ⊥) → (i ≡ order_count_place → ⊥) → i < submits_from → place (submit_unbooked t e) i ≡ place t i
  unfolding submit_unbooked with_deals counted
  submit_place e i a b c h =
      let l = (timed e.time t).head in
      written_place (submit_orders t e) _ i c ∙ get_or-set_other (set l (submits_from + e.member) _) accepted_submits_place i _ 0 b ∙ get_or-set_other l (submits_from + e.member) i _ 0 (λ q. omega arith)
      ∙ timed_place e.time i a h

  -- the new day writes the day, the time and the second's counts
  pub evening_place : (n i : ℕ) → time_place < i → i < submits_from → place (close_booked t n).after i ≡ place (with_closed (closing_contracts t) (priced n t)) i
  unfolding close_booked priced with_closed
  evening_place n i l h =
      let w : SameHeader time_place t.head _ = written_header (kept (λ o. not (is_of_any (closing_contracts t) o)) (orders (priced n t))) (priced n t) in
      let few : members (with_closed (closing_contracts t) (priced n t)) ≤ most_members = omega (arith, w.places members_place (field (omega arith)), u.head.members_range.to) in
      day_place_lem (next_day t) (with_closed (closing_contracts t) (priced n t)) i (omega (arith, w.longer, u.long.head)) few l h

  -- a close moves no place of the head between time and submits but the count of orders
  pub close_place : (n i : ℕ) → time_place < i → (i ≡ order_count_place → ⊥) → i < submits_from → place (close_booked t n).after i ≡ place t i
  unfolding priced with_closed
  close_place n i l d h = evening_place n i l h ∙ written_place (kept (λ o. not (is_of_any (closing_contracts t) o)) (orders (priced n t))) (priced n t) i d
