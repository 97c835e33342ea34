-- The causes that the book tells, by the lots that cross. Assumes nothing.
use mathlib.Core.Path.{◌≡◌, refl, sym, ap, ◌∙◌}
use mathlib.Core.Bool.{Bool, true, false, ◌&&◌, and_assoc}
use mathlib.Core.List.{List, [], ◌∷◌, ◌++◌, map, flat_map}
use Prim.Native.Nat.{ℕ, ◌+◌, ◌*◌, ◌-◌, ◌≤◌, ◌<◌, min}
use native.Mathlib.Omega.{arith}
use lib.Dec.{eqb, leb, ltb}
use lib.ListN.{length, length-map}
use lib.IntN.{pos, ◌+ℤ◌}
use lib.Signed.{lt_z}
use borrow.Author.Tests.{lt-ltb, lt-leb, ne_eqb, ltb-true, ltb-false, leb-false}
use Rattle.std.specs.Prelude.{Result, Ok, Err, ⊤}
use Rattle.arith.specs.Lists.{total, All}
use Rattle.arith.proofs.Tests.{true_or, same_or, same_ltb, or_left, or_right}
use Rattle.rules.specs.declared.event.Submission.{Submission}
use Rattle.rules.specs.declared.order.Order.{Order}
use Rattle.rules.specs.Answers.{Outcome, decide}
use Rattle.rules.specs.Ranges.{most_submits_in_second, most_orders, most_lots_run, most_accepted_submits}
use Rattle.rules.specs.Ledger.{Tables, time, accepted_submits, lots_run, order_count, orders, limit, lots_at, line_run}
use Rattle.rules.specs.Matching.{is_teye, is_resting, mirrored, matched, incoming, submit_matched, submit_lines, would_rest, submits_at, resting_lots, above_limit}
use Rattle.rules.specs.Refusals.{submit_causes, run_would_pass}
use Rattle.order_priority.specs.Priority.{Ranked}
use Rattle.matching.specs.Ranks.{lots_of}
use Rattle.matching.specs.Crossing.{is_own, own_lots, own_in, crossing_in}
use Rattle.matching.specs.Deals.{counterparty_of, lines_with}
use Rattle.matching.specs.Matching.{Ended}
use Rattle.matching.proofs.Running.{Running, running_start, left_all, count_most}
use Rattle.matching.proofs.Measures.{Measured, measured, untouched}
use Rattle.matching.proofs.Totals.{dealt_and_left, lots_kept, lines_kept, run_of_lines, total_kept, crossing_all}
use Rattle.submit_causes.specs.Fit.{Acceptable}
use Rattle.submit_causes.specs.Causes.{outcome, first_causes, measured_causes}
use Rattle.rules.proofs.Distinct.{Distinct}
use Rattle.rules.specs.declared.refusal.Refusal.{Refusal}

-- ---- causes in two parts
pub decide_both : (cs ds : List (Bool × Refusal)) (t : Tables) (b : Outcome Tables) → decide (cs ++ ds) t b ≡ decide cs t (decide ds t b)
decide_both [] ds t b = refl
decide_both ((true, a) ∷ cs) ds t b = refl
decide_both ((false, a) ∷ cs) ds t b = decide_both cs ds t b

-- ---- an order and resting orders that are sound
module _ (o : Order) (os : List Order) (ranked : All Ranked os) (numbers : Distinct os) (has_lots_holds : All (λ r. 0 < r.lots.0) os) (some : 1 ≤ o.lots.0) where
  start : Running o os (map lots_of os) o.lots.0 []
  start = running_start o os has_lots_holds

  known : Measured o os o ranked numbers (map lots_of os) o.lots.0
  known = measured o os o ranked numbers o.lots.0 o.lots.0 (omega arith) (map lots_of os) [] start

  pub left_is : (matched o os).left ≡ o.lots.0 - crossing_in o os
  left_is = known.lots ∙ ap (λ n. o.lots.0 - n) (crossing_all o os)

  pub still : crossing_in o os ≡ 0 → Ended o os (map lots_of os) o.lots.0 []
  still e = untouched o os o ranked numbers (map lots_of os) o.lots.0 [] start (crossing_all o os ∙ e)

  pub resting_still : crossing_in o os ≡ 0 → (matched o os).resting ≡ os
  resting_still e = (still e).resting ∙ left_all os has_lots_holds

  -- full after the deals: only where none cross
  full_is : (n : ℕ) → length os ≡ n → n ≤ most_orders → ltb 0 (matched o os).left && leb most_orders (length (matched o os).resting) ≡ eqb (crossing_in o os) 0 && leb most_orders n
  full_is n l few =
      same_or (crossing_in o os) 0
      (λ e. rw (resting_still e, left_is, e, l, lt-ltb 0 (o.lots.0 - 0) (omega arith)))
      (λ e. rw (ne_eqb (crossing_in o os) 0 e)
      (true_or (ltb 0 (matched o os).left)
      (λ t. rw t (lt-leb most_orders (length (matched o os).resting)
      (omega (arith, known.fewer (omega (arith, e, crossing_all o os)) (ltb-true 0 (matched o os).left t), count_most (map lots_of os), length-map os lots_of))))
      (λ t. rw t)))

  dealt_is : total (λ d. d.lots) (matched o os).deals ≡ min o.lots.0 (crossing_in o os)
  dealt_is = omega (arith, dealt_and_left o os, left_is)

  run_is : line_run (flat_map (lines_with o) (map counterparty_of (matched o os).deals)) ≡ 2 * min o.lots.0 (crossing_in o os)
  run_is = run_of_lines o (map counterparty_of (matched o os).deals) ∙ ap (λ n. 2 * n) (sym (lots_kept (matched o os).deals) ∙ dealt_is)

-- ---- verdicts
pass_all : (cs : List (Bool × Refusal)) (t : Tables) → ((b : Outcome Tables) → b ≡ decide cs t b) → All (λ c. c.0 ≡ false) cs
pass_all [] t h = tt
pass_all ((true, a) ∷ cs) t h =
    let x : ◌≡◌ {A = Result ℕ Refusal} (Ok 0) (Err a) = ap (λ o. o.answer) (h (record { answer = Ok 0; after = t })) in
    absurd (let z : ◌≡◌ {A = ℕ} 0 1 = cc in omega arith)
pass_all ((false, a) ∷ cs) t h = (refl, pass_all cs t h)

module _ (t : Tables) (e : Submission) (ranked : All Ranked (orders t)) (numbers : Distinct (orders t)) (has_lots_holds : All (λ r. 0 < r.lots.0) (orders t)) (some : 1 ≤ e.lots.0)
    (many : length (orders t) ≡ order_count t) (few : order_count t ≤ most_orders) where
  abbrev o : Order
  o = incoming t e

  abbrev cross : ℕ
  cross = crossing_in o (orders t)

  own_is : resting_lots t e.member e.contract e.side ≡ own_in o (orders t)
  unfolding resting_lots own_in own_lots
  own_is = total_kept (is_own o) (orders t)

  above_is : above_limit t e ≡ lt_z (pos (limit t e.member)) (mirrored e.side (lots_at t e.contract e.member) +ℤ pos (own_in o (orders t) + e.lots.0))
  unfolding above_limit
  above_is = ap (λ n. lt_z (pos (limit t e.member)) (mirrored e.side (lots_at t e.contract e.member) +ℤ pos (n + e.lots.0))) own_is

  teye_is : is_teye e.kind && ltb 0 (submit_matched t e).left ≡ is_teye e.kind && ltb cross e.lots.0
  unfolding submit_matched
  teye_is =
      ap (λ n. is_teye e.kind && ltb 0 n) (left_is o (orders t) ranked numbers has_lots_holds some)
      ∙ ap (λ b. is_teye e.kind && b) (same_ltb 0 (e.lots.0 - cross) cross e.lots.0 (λ k. omega arith) (λ k. omega arith))

  rest_is : would_rest t e && leb most_orders (length (submit_matched t e).resting) ≡ is_resting e.kind && (eqb cross 0 && leb most_orders (order_count t))
  unfolding would_rest submit_matched
  rest_is =
      and_assoc (is_resting e.kind) (ltb 0 (matched o (orders t)).left) (leb most_orders (length (matched o (orders t)).resting))
      ∙ ap (λ b. is_resting e.kind && b) (full_is o (orders t) ranked numbers has_lots_holds some (order_count t) many few)

  total_is : run_would_pass t (submit_lines t e) ≡ ltb most_lots_run (lots_run t + 2 * min e.lots.0 cross)
  unfolding submit_lines submit_matched
  total_is = ap (λ n. ltb most_lots_run (lots_run t + n)) (ap line_run (lines_kept o (matched o (orders t)).deals) ∙ run_is o (orders t) ranked numbers has_lots_holds some)

  causes_are : submit_causes t e ≡ first_causes t e ++ measured_causes (own_in o (orders t)) cross t e
  causes_are = rw (above_is, teye_is, rest_is, total_is)

  -- the first part decides alone where it refuses
  pub judged_first : (first : Result ⊤ Refusal) → ((b : Outcome Tables) → outcome first t b ≡ decide (first_causes t e) t b) → (b : Outcome Tables)
      → outcome first t (decide (measured_causes (own_in o (orders t)) cross t e) t b) ≡ decide (submit_causes t e) t b
  judged_first first h b =
      h (decide (measured_causes (own_in o (orders t)) cross t e) t b)
      ∙ sym (decide_both (first_causes t e) (measured_causes (own_in o (orders t)) cross t e) t b) ∙ ap (λ cs. decide cs t b) (sym causes_are)

  module _ (first second : Result ⊤ Refusal) (h : (b : Outcome Tables) → outcome first t b ≡ decide (first_causes t e) t b)
      (k : (b : Outcome Tables) → outcome second t b ≡ decide (measured_causes (own_in o (orders t)) cross t e) t b) where
    pub judged : (b : Outcome Tables) → outcome first t (outcome second t b) ≡ decide (submit_causes t e) t b
    judged b = ap (outcome first t) (k b) ∙ judged_first first h b

    pub acceptable : first ≡ Ok tt → second ≡ Ok tt → Acceptable t e cross
    acceptable x y =
        let all = pass_all (submit_causes t e) t (λ b. rw (x, y) at (judged b)) in
        let last = all.1.1.1.1.1.1.1.1.0 in
        record {
          crosses = refl;
          most_submits = leb-false most_submits_in_second (submits_at t e.time e.member) all.1.1.1.1.0;
          most_accepted = leb-false most_accepted_submits (accepted_submits t) (or_right (run_would_pass t (submit_lines t e)) (leb most_accepted_submits (accepted_submits t)) last);
          most_run = ltb-false most_lots_run (lots_run t + line_run (submit_lines t e)) (or_left (run_would_pass t (submit_lines t e)) (leb most_accepted_submits (accepted_submits t)) last);
          place = λ w. leb-false most_orders (length (submit_matched t e).resting) (sym (ap (λ b. b && leb most_orders (length (submit_matched t e).resting)) w) ∙ all.1.1.1.1.1.1.1.0);
        }
