-- The rows stay within the lots run through every record that no cause refuses.
use mathlib.Core.Path.{◌≡◌, refl, sym, ap, subst₂, ◌∙◌}
use mathlib.Core.Bool.{Bool, true, not, cond, ◌&&◌}
use mathlib.Core.List.{List, []}
use Prim.Native.Nat.{ℕ, ◌+◌, ◌*◌, ◌≤◌, ◌<◌}
use native.Mathlib.Omega.{arith}
use native.Mathlib.Nat.{add-zero, mul-add}
use lib.Dec.{eqb, leb, ltb}
use lib.ListN.{length, get_or, set, replicate, length-set, length-replicate}
use lib.IntN.{◌+ℤ◌}
use lib.Seq.{get_or-set_same, get_or-set_other}
use borrow.Author.Tests.{leb-true}
use Rattle.arith.specs.Lists.{All, kept, every, over}
use Rattle.arith.proofs.Alls.{all_hold, every_all, all_map}
use Rattle.arith.proofs.EachBlock.{block_at, block_passes}
use Rattle.arith.proofs.Overs.{over_length, over_outside}
use Rattle.arith.proofs.Sizes.{abs_plus}
use Rattle.arith.proofs.Tests.{by_bool, and_right}
use Rattle.rules.specs.Ledger.{head_length, marks_from, price_width, submits_from}
use Rattle.rules.specs.Ranges.{contract_count, term_count, most_price}
use Rattle.rules.specs.declared.event.CloseOutTerms.{CloseOutTerms}
use Rattle.rules.specs.declared.event.Leg.{Leg}
use Rattle.rules.specs.declared.event.Submission.{Submission}
use Rattle.rules.specs.declared.order.Order.{Order}
use Rattle.rules.specs.Answers.{Outcome}
use Rattle.rules.specs.Ledger.{members_place, day_place, time_place, accepted_submits_place, lots_run_place, order_count_place, default_mark, Tables, Line, with_head, with_prices, members, time, lots_run, ggf, orders, with_orders, without_submits, timed, line_run, booked}
use Rattle.rules.specs.Records.{number_sound, lots_sound, price_sound, leg_sound}
use Rattle.rules.specs.Matching.{incoming, matching, matched, submit_matched, submit_lines, submit_orders, with_deals, counted, submit_booked}
use Rattle.rules.specs.Synthetic.{named_legs, leg_line, proposal_lines, used_by_legs, proposal_booked}
use Rattle.rules.specs.CloseOfDay.{closing_contracts, with_closed, priced, next_day, on_day, close_booked}
use Rattle.rules.specs.Default.{close_out_lines, close_out_booked, default_booked}
use Rattle.rules.specs.Refusals.{contract_prices_sound, prices_sound, order_sound, book_sound}
use Rattle.rules.specs.Accounts.{Column, lots, value, row, amount, lines_of}
use Rattle.accounts.proofs.Lines.{Fits, row_total}
use Rattle.accounts.proofs.Runs.{Sound}
use Rattle.accounts.proofs.Written.{lines_printed}
use Rattle.accounts.proofs.Calls.{booked_row}
use Rattle.accounts.proofs.Submits.{timed_rows, submit_fits, dealt_all, deals_each}
use Rattle.accounts.proofs.Proposals.{legs_all, mapped_all, proposal_fits}
use Rattle.accounts.proofs.CloseOutLines.{close_out_fits, close_out_price}
use Rattle.accounts.proofs.Closes.{closing_today}
use Rattle.accounts.proofs.Bounds.{Bounded, bounded_same, bounded_posted, lines_one, weight, lines_weigh, bounded_closed, WithinRun, RowsWithin}

-- ---- a head on its way from l: members and lots run stand
pub record SameRun (l l' : List ℕ) : Type 0 where
  pub longer : length l ≤ length l'
  pub size : get_or l' members_place 0 ≡ get_or l members_place 0
  pub run : get_or l' lots_run_place 0 ≡ get_or l lots_run_place 0

pub run_start : (l : List ℕ) → SameRun l l
run_start l = record { longer = omega arith; size = refl; run = refl }

run_set : {l u : List ℕ} (j v : ℕ) → (members_place ≡ j → ⊥) → (lots_run_place ≡ j → ⊥) → SameRun l u → SameRun l (set u j v)
run_set {u = u} j v p q a = record {
  longer = omega (arith, length-set u j v, a.longer);
  size = get_or-set_other u j members_place v 0 p ∙ a.size;
  run = get_or-set_other u j lots_run_place v 0 q ∙ a.run;
}

-- the second's counts become zero
run_zeros : {l u : List ℕ} (n : ℕ) → n ≤ 32 → head_length ≤ length l → SameRun l u → SameRun l (over submits_from (replicate n 0) u)
run_zeros {u = u} n few long a =
    let zeros : List ℕ = replicate n 0 in
    let fit : submits_from + length zeros ≤ length u = omega (arith, a.longer, length-replicate {A = ℕ} n 0) in
    record {
      longer = omega (arith, over_length submits_from zeros u fit, a.longer);
      size = over_outside submits_from zeros u fit members_place 0 (λ z. absurd (omega arith)) ∙ a.size;
      run = over_outside submits_from zeros u fit lots_run_place 0 (λ z. absurd (omega arith)) ∙ a.run;
    }

run_timed : (n : ℕ) (t : Tables) → Sound t → SameRun t.head (timed n t).head
unfolding timed without_submits
run_timed n t s =
    by_bool (λ b. SameRun t.head (cond b (with_head (set (without_submits t).head time_place n) t) t).head) (ltb (time t) n)
    (λ _. run_set time_place n (omega arith) (omega arith) (run_zeros (members t) s.few_members s.head_long (run_start t.head))) (λ _. run_start t.head)

run_closed : {l : List ℕ} (cs : List ℕ) (t : Tables) → SameRun l t.head → SameRun l (with_closed cs t).head
unfolding with_closed with_orders
run_closed cs t a = run_set order_count_place _ (omega arith) (omega arith) a

-- ---- tables after a record
-- t' has the rows of t
pub within_kept : (t t' : Tables) → SameRun t.head t'.head → t'.lots ≡ t.lots → t'.value ≡ t.value → WithinRun t → WithinRun t'
within_kept t t' same e v a x = subst₂ (λ n r. Bounded n (weight x * r) (row x t')) (sym same.size) (sym same.run) (bounded_same (λ c m _ _. rows x c m) (a x))
  where
    rows : (x : Column) (c m : ℕ) → row x t' c m ≡ row x t c m
    rows lots c m = rw e
    rows value c m = rw v

-- what a call on t leaves has the rows of t with the printed lines posted, and the lots run has grown by their lots
pub record Posts (t : Tables) (o : Outcome Tables) : Type 0 where
  pub lines : List Line
  pub printed : lines_of o.answer o.after.lines ≡ lines
  pub size : members o.after ≡ members t
  pub run : lots_run o.after ≡ lots_run t + line_run lines
  pub rows : (x : Column) (c m : ℕ) → m < members t → row x o.after c m ≡ row x t c m +ℤ row_total (amount x) c m lines
  pub paid : All (λ l. l.price ≤ most_price) lines

-- u: the tables t with all but the lines booked
pub booked_posts : (ls : List Line) (t u : Tables) → Sound t → SameRun t.head u.head → u.lots ≡ t.lots → u.value ≡ t.value
    → All (Fits (members t)) ls → All (λ l. l.price ≤ most_price) ls → Posts t (booked ls u)
unfolding booked
booked_posts ls t u s same e v fit paid =
    let sum = lots_run u + line_run ls in
    record {
      lines = ls;
      printed = lines_printed ls u.lines;
      size = get_or-set_other u.head lots_run_place members_place sum 0 (omega arith) ∙ same.size;
      run = get_or-set_same u.head lots_run_place sum 0 (omega (arith, same.longer, s.head_long)) ∙ ap (λ r. r + line_run ls) same.run;
      rows = λ x c m q. booked_row (members t) ls t u s s.few_members fit e v x c m (omega (arith, s.few_members));
      paid = paid;
    }

-- ---- two bounds that posting keeps
-- of the three contracts that hold a month, which a cascade keeps too
pub within_posted : (t : Tables) (o : Outcome Tables) → Posts t o → WithinRun t → WithinRun o.after
within_posted t o p a x =
    subst₂ (λ n r. Bounded n (weight x * r) (row x o.after)) (sym p.size) (sym p.run)
    (bounded_same (λ c m _ q. p.rows x c m q) (bounded_posted (amount x) (weight x) (lots_run t) p.lines (lines_weigh x p.lines p.paid) (a x)))

-- of each row alone, which is all that tables show of which only soundness is known
pub rows_posted : (t : Tables) (o : Outcome Tables) → Posts t o → RowsWithin t → RowsWithin o.after
rows_posted t o p a x c m k q =
    let q' : m < members t = omega (arith, p.size) in
    let w = weight x in
    rw (p.rows x c m q', p.run)
    (omega (arith, abs_plus (row x t c m) (row_total (amount x) c m p.lines), a x c m k q', lines_one (amount x) w p.lines c m (lines_weigh x p.lines p.paid), mul-add w (lots_run t) (line_run p.lines)))

-- ---- prices do not pass 1,000,000
price_most : (p : ℕ) → price_sound p ≡ true → p ≤ most_price
price_most p e = leb-true p most_price (and_right (leb 1 p) (leb p most_price) e)

-- of resting orders, if the book is sound
orders_priced : (t : Tables) → book_sound t ≡ true → All (λ o. o.price.0 ≤ most_price) (orders t)
unfolding book_sound order_sound
orders_priced t e =
    all_map (λ o. order_sound t o ≡ true) (λ o. o.price.0 ≤ most_price) (orders t) (λ o q. price_most o.price.0 (all_hold _ q).1.1.1.0)
    (every_all (order_sound t) (orders t) (all_hold _ e).1.0)

-- of legs, if they are sound
legs_priced : (os : List Order) (gs : List Leg) → All (λ g. leg_sound g ≡ true) gs → All (λ n. n.leg.price.0 ≤ most_price) (named_legs os gs)
legs_priced os gs h =
    legs_all (λ g. g.price.0 ≤ most_price) os gs
    (all_map (λ g. leg_sound g ≡ true) (λ g. g.price.0 ≤ most_price) gs
    (λ g q. price_most g.price.0 (and_right (number_sound g.order && lots_sound g.lots.0) (price_sound g.price.0) q)) h)

-- a GGF of sound prices is at most the most price
pub ggf_most : (t : Tables) (c : ℕ) → prices_sound t ≡ true → c < contract_count → ggf t c ≤ most_price
unfolding prices_sound contract_prices_sound
ggf_most t c e h =
    let five = block_at price_width c 0 t.prices 0 (omega arith) ∙ ap (λ i. get_or t.prices i 0) (add-zero (c * price_width)) in
    leb-true (ggf t c) most_price (ap (λ p. leb p most_price) (sym five) ∙ (all_hold _ (block_passes 5 (contract_prices_sound (lots_run t)) contract_count t.prices e c h)).0)

-- ---- each kind of record
module _ (t : Tables) (s : Sound t) where
  pub submit_posts : (e : Submission) → e.contract < contract_count → e.member < members t → book_sound t ≡ true → Posts t (submit_booked t e)
  unfolding submit_booked with_orders with_deals counted submit_lines submit_matched matched
  submit_posts e c< m< book =
      let u = timed e.time t in
      let ds = (matching (length (orders t)) (incoming t e) (orders t)).deals in
      booked_posts (submit_lines t e) t (with_orders (submit_orders t e) (with_deals e.contract (submit_matched t e).deals (counted e.member u))) s
      (run_set order_count_place _ (omega arith) (omega arith) (run_set accepted_submits_place _ (omega arith) (omega arith) (run_set (submits_from + e.member) _ (omega arith) (omega arith) (run_timed e.time t s))))
      (timed_rows e.time t).0 (timed_rows e.time t).1 (submit_fits t s e c< m<)
      (deals_each (λ l. l.price ≤ most_price) (incoming t e) ds (all_map (λ x. x.resting.price.0 ≤ most_price) _ ds (λ x p. (p, (p, tt)))
      (dealt_all (λ b. b.price.0 ≤ most_price) (λ b q p. p) (length (orders t)) (incoming t e) (orders t) (orders_priced t book))))

  pub cancel_posts : (n : ℕ) (p : Order → Bool) → Posts t (booked [] (with_orders (kept p (orders t)) (timed n t)))
  unfolding with_orders
  cancel_posts n p =
      booked_posts [] t (with_orders (kept p (orders t)) (timed n t)) s (run_set order_count_place _ (omega arith) (omega arith) (run_timed n t s))
      (timed_rows n t).0 (timed_rows n t).1 tt tt

  pub limits_posts : (l : List ℕ) → Posts t (booked [] (with_prices l t))
  limits_posts l = booked_posts [] t (with_prices l t) s (run_start t.head) refl refl tt tt

  pub proposal_posts : (legs : List Leg) → every leg_sound legs ≡ true → Posts t (proposal_booked t legs)
  unfolding proposal_booked with_orders proposal_lines
  proposal_posts legs sound =
      booked_posts (proposal_lines t legs) t (with_orders (used_by_legs legs (orders t)) t) s (run_set order_count_place _ (omega arith) (omega arith) (run_start t.head)) refl refl
      (proposal_fits t s legs) (mapped_all (λ l. l.price ≤ most_price) leg_line (named_legs (orders t) legs) (legs_priced (orders t) legs (every_all leg_sound legs sound)))

  pub default_posts : (m : ℕ) → Posts t (default_booked t m)
  unfolding default_booked with_orders
  default_posts m =
      booked_posts [] t (with_orders (kept (λ o. not (eqb o.member m)) (orders t)) (with_head (set t.head (marks_from + m) default_mark) t)) s
      (run_set order_count_place _ (omega arith) (omega arith) (run_set (marks_from + m) 1 (omega arith) (omega arith) (run_start t.head))) refl refl tt tt

  pub close_out_posts : (e : CloseOutTerms) → e.contract < contract_count → prices_sound t ≡ true → Posts t (close_out_booked t e)
  unfolding close_out_booked
  close_out_posts e c< prices =
      booked_posts (close_out_lines t e) t t s (run_start t.head) refl refl (close_out_fits t e c<)
      (all_map (λ l. l.price ≡ ggf t e.contract) (λ l. l.price ≤ most_price) (close_out_lines t e) (λ l q. omega (arith, ggf_most t e.contract prices c<)) (close_out_price t e))

  -- a close of day adds rows to rows, so it keeps the first bound alone
  pub close_rows : (n : ℕ) → WithinRun t → WithinRun (close_booked t n).after
  unfolding close_booked priced on_day without_submits
  close_rows n a =
      let cs = closing_contracts t in
      let u = priced n t in
      let v = with_closed cs u in
      let same = run_closed cs u (run_start t.head) in
      let closed : WithinRun v = λ x. subst₂ (λ k run. Bounded k (weight x * run) (row x v)) (sym same.size) (sym same.run)
      (bounded_closed (members t) s.few_members x cs u (all_map _ (λ c. c < term_count) cs (λ c q. q.0) (closing_today t))
      (record { size = refl; lots_long = s.lots_long; value_long = s.value_long })
      (within_kept t u (run_start t.head) refl refl a x)) in
      within_kept v (on_day (next_day t) v)
      (run_set time_place 0 (omega arith) (omega arith) (run_set day_place (next_day t) (omega arith) (omega arith)
      (run_zeros (members v) (omega (arith, same.size, s.few_members)) (omega (arith, same.longer, s.head_long)) (run_start v.head)))) refl refl closed
