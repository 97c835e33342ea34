-- No order of a defaulted member rests: a default record takes its member's orders out, no other record changes a mark, and a defaulted
-- member's submit is refused.
use Prim.Native.Nat.{ℕ, ◌+◌, ◌<◌}
use mathlib.Core.Path.{◌≡◌, sym, ap, ◌∙◌}
use mathlib.Core.Bool.{Bool, true, false, not}
use mathlib.Core.List.{List, []}
use native.Mathlib.Omega.{arith}
use lib.Dec.{eqb}
use lib.ListN.{length}
use lib.Seq.{get_or-set_other}
use borrow.Author.Tests.{eq-eqb}
use Rattle.arith.specs.Lists.{All, kept}
use Rattle.arith.proofs.Alls.{all_map, all_both, all_kept}
use Rattle.arith.proofs.Tests.{never}
use Rattle.rules.specs.Ledger.{marks_from}
use Rattle.rules.specs.Ranges.{contract_count, most_members}
use Rattle.rules.specs.declared.event.CloseOutTerms.{CloseOutTerms}
use Rattle.rules.specs.declared.event.Leg.{Leg}
use Rattle.rules.specs.declared.event.Submission.{Submission}
use Rattle.rules.specs.declared.order.Order.{Order}
use Rattle.rules.specs.Ledger.{Tables, Line, members, mark, defaulted, with_prices, orders, with_orders, timed, booked}
use Rattle.rules.specs.Matching.{submit_matched, submit_lines, submit_booked, matched, incoming}
use Rattle.rules.specs.Synthetic.{proposal_lines, used_by_legs, proposal_booked}
use Rattle.rules.specs.CloseOfDay.{close_booked}
use Rattle.rules.specs.Default.{default_booked, close_out_lines, close_out_booked}
use Rattle.rules.proofs.SoundTables.{Undamaged}
use Rattle.accounts.specs.EveryList.{NoneDefaulted}
use Rattle.accounts.proofs.Runs.{sound_of}
use Rattle.accounts.proofs.Books.{booked_place}
use Rattle.accounts.proofs.HeadStays.{submit_unbooked}
use Rattle.accounts.proofs.Remains.{Remain, remain_all, matching_remain}
use Rattle.accounts.proofs.OrdersAfter.{submit_orders_lem, default_orders, cancel_remain, limits_remain, proposal_remain, close_out_remain, close_remain}
use Rattle.accounts.proofs.Places.{written_place, timed_place, submit_place, close_place}
use Rattle.accounts.proofs.Complete.{submit_all}

-- the marks of t' are those of t
abbrev SameMarks : Tables → Tables → Type 0
SameMarks t t' = (m : ℕ) → m < most_members → mark t' m ≡ mark t m

booked_marks : (ls : List Line) (u : Tables) → SameMarks u (booked ls u).after
booked_marks ls u m h = booked_place ls u (marks_from + m) (λ e. omega arith)

written_marks : (os : List Order) (u : Tables) → SameMarks u (with_orders os u)
written_marks os u m h = written_place os u (marks_from + m) (λ e. omega arith)

-- ---- each kind
-- what remains of the orders, with the same marks
abbrev Fine : Tables → Order → Type 0
Fine t o = (defaulted t o.member ≡ false) × (o.member < most_members)

fine_kept : (t t' : Tables) → SameMarks t t' → (o : Order) → Fine t o → defaulted t' o.member ≡ false
fine_kept t t' same o f = ap (λ n. eqb n 1) (same o.member f.1) ∙ f.0

module _ (t : Tables) (u : Undamaged t) (a : NoneDefaulted t) where
  all_fine : All (Fine t) (orders t)
  all_fine =
      all_both (λ o. defaulted t o.member ≡ false) (λ o. o.member < most_members) (orders t) a
      (all_map (λ o. (o.contract < contract_count) × (o.member < members t)) (λ o. o.member < 32) (orders t) (λ o p. omega (arith, u.head.members_range.to)) (sound_of u).placed)

  remaining : (t' : Tables) → SameMarks t t' → Remain (orders t) (orders t') → NoneDefaulted t'
  remaining t' same x = remain_all (Fine t) (λ o. defaulted t' o.member ≡ false) (λ o q _ _ f. fine_kept t t' same o f) x all_fine

  pub submit_marks : (e : Submission) → e.member < members t → defaulted t e.member ≡ false → NoneDefaulted (submit_booked t e).after
  unfolding submit_booked submit_unbooked submit_matched matched
  submit_marks e m< d =
      let t' = (submit_booked t e).after in
      let same : SameMarks t t' = λ m h.
      booked_marks (submit_lines t e) (submit_unbooked t e) m h ∙ submit_place t u e (marks_from + m) (λ q. omega arith) (λ q. omega arith) (λ q. omega arith) (omega arith) in
      rw (submit_orders_lem t u e)
      (submit_all t e (λ o. defaulted t' o.member ≡ false)
      (remain_all (Fine t) (λ o. defaulted t' o.member ≡ false) (λ o q _ _ f. fine_kept t t' same o f) (matching_remain (length (orders t)) (incoming t e) (orders t)) all_fine)
      (λ _. fine_kept t t' same (incoming t e) (d, omega (arith, u.head.members_range.to))))

  -- the member's orders are gone, and no other mark is set
  default_mark_lem : (m k : ℕ) → k < most_members → (k ≡ m → ⊥) → mark (default_booked t m).after k ≡ mark t k
  unfolding default_booked
  default_mark_lem m k h d = booked_marks [] _ k h ∙ written_marks _ _ k h ∙ get_or-set_other t.head (marks_from + m) (marks_from + k) 1 0 (λ e. d (omega arith))

  pub default_marks : (m : ℕ) → NoneDefaulted (default_booked t m).after
  default_marks m =
      let t' = (default_booked t m).after in
      let others : Order → Bool = λ o. not (eqb o.member m) in
      rw (default_orders t u m)
      (all_map (λ o. Fine t o × (others o ≡ true)) (λ o. defaulted t' o.member ≡ false) (kept others (orders t))
      (λ o f. ap (λ n. eqb n 1) (default_mark_lem m o.member f.0.1 (λ e. never (sym f.1 ∙ ap not (eq-eqb o.member m e)))) ∙ f.0.0) (all_kept (Fine t) others (orders t) all_fine))

  pub cancel_marks : (n : ℕ) (p : Order → Bool) → NoneDefaulted (booked [] (with_orders (kept p (orders t)) (timed n t))).after
  cancel_marks n p =
      remaining _ (λ m h. booked_marks [] _ m h ∙ written_marks (kept p (orders t)) (timed n t) m h ∙ timed_place t u n (marks_from + m) (λ q. omega arith) (omega arith)) (cancel_remain t u n p)

  pub limits_marks : (l : List ℕ) → NoneDefaulted (booked [] (with_prices l t)).after
  limits_marks l = remaining _ (booked_marks [] (with_prices l t)) (limits_remain t u l)

  pub proposal_marks : (legs : List Leg) → NoneDefaulted (proposal_booked t legs).after
  unfolding proposal_booked
  proposal_marks legs = remaining _ (λ m h. booked_marks (proposal_lines t legs) _ m h ∙ written_marks (used_by_legs legs (orders t)) t m h) (proposal_remain t u legs)

  pub close_out_marks : (e : CloseOutTerms) → NoneDefaulted (close_out_booked t e).after
  unfolding close_out_booked
  close_out_marks e = remaining _ (booked_marks (close_out_lines t e) t) (close_out_remain t u e)

  pub close_marks : (n : ℕ) → NoneDefaulted (close_booked t n).after
  close_marks n = remaining _ (λ m h. close_place t u n (marks_from + m) (omega arith) (λ q. omega arith) (omega arith)) (close_remain t u n)
