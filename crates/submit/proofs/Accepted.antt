-- An accepted submit, from the steps of the code to the rules. Assumes nothing.
use mathlib.Core.Path.{◌≡◌, sym, ap, subst, ◌∙◌}
use mathlib.Core.List.{List}
use Prim.Native.Nat.{ℕ, ◌+◌, ◌*◌, ◌≤◌, ◌<◌}
use native.Mathlib.Omega.{arith}
use lib.ListN.{length, get_or}
use Rattle.rules.specs.declared.event.Submission.{Submission}
use Rattle.rules.specs.declared.order.Order.{Order}
use Rattle.rules.specs.Ranges.{most_members, most_price, most_submits_in_second, most_accepted_submits}
use Rattle.rules.specs.Ledger.{Tables, time_place, accepted_submits_place, members_place, lots_run_place, order_count_place, with_accepted_submits}
use Rattle.rules.specs.Ledger.{with_submits_this_second, submits_from, with_head, head_length, lines_length, orders, timed}
use Rattle.rules.specs.Matching.{incoming, submit_matched, submit_lines, would_rest, submit_orders, counted, submit_booked}
use Rattle.tables.specs.Fit.{HeadFit, PricesFit, RowsFit, BookFit, members_in, accepted_in, lots_run_in, order_count_in, orders_in}
use Rattle.matching.specs.Crossing.{crossing_in}
use Rattle.tables.proofs.Heads.{timed_length, timed_place}
use Rattle.submit_causes.specs.Fit.{SubmissionFit, Acceptable}
use Rattle.submit.specs.Deals.{Tradable}
use Rattle.submit.specs.Placing.{Placeable, order_booked}
use Rattle.submit.proofs.Heads.{timed_submits, counted_length, counted_place}

module _ (t : Tables) (e : Submission)
    (h : HeadFit t.head) (p : PricesFit (lots_run_in t.head) t.prices) (b : BookFit t.head t.book) (f : SubmissionFit t.head e) where
  abbrev o : Order
  o = incoming t e

  abbrev os : List Order
  os = orders_in (order_count_in t.head) t.book

  -- ---- the head with the time
  module _ (lotsCrossing : ℕ) (a : Acceptable t e lotsCrossing) (timedHead : List ℕ) (clock : (u : Tables) → with_head timedHead u ≡ timed e.time (with_head t.head u)) where
    time_is : timedHead ≡ (timed e.time t).head
    time_is = ap (λ x. x.head) (clock t)

    pub countable : (head_length ≤ length timedHead) × (e.member < most_members) × (get_or timedHead (submits_from + e.member) 0 ≤ most_submits_in_second) ×
        (accepted_in timedHead ≤ most_accepted_submits)
    countable = (
      omega (arith, h.long, ap length time_is ∙ timed_length e.time t h.long h.most_members_holds),
      omega (arith, f.member_below, h.most_members_holds),
      omega (arith, ap (λ l. get_or l (submits_from + e.member) 0) time_is ∙ timed_submits e.time t e.member h.long h.most_members_holds f.member_below, a.most_submits),
      omega (arith, ap (λ l. accepted_in l) time_is ∙ timed_place e.time t h.long h.most_members_holds accepted_submits_place (omega arith) (λ z. omega arith), h.most_accepted),
    )

    pub counted_is : (head₁ : List ℕ)
        → head₁ ≡ with_accepted_submits (accepted_in timedHead + 1) (with_submits_this_second e.member (get_or timedHead (submits_from + e.member) 0 + 1) timedHead)
        → with_head head₁ t ≡ counted e.member (timed e.time t)
    unfolding counted
    counted_is head₁ s = ap (λ l. with_head l t) s ∙ ap (counted e.member) (clock t)

  -- ---- the head with the time and the counts
  module _ (head₁ : List ℕ) (same : with_head head₁ t ≡ counted e.member (timed e.time t)) where
    head_is : head₁ ≡ (counted e.member (timed e.time t)).head
    head_is = ap (λ x. x.head) same

    pub head_long : head_length ≤ length head₁
    head_long = omega (arith, h.long, ap length head_is ∙ counted_length e.time t e.member h.long h.most_members_holds f.member_below)

    place : (i : ℕ) → i < submits_from → (i ≡ time_place → ⊥) → (i ≡ accepted_submits_place → ⊥) → get_or head₁ i 0 ≡ get_or t.head i 0
    place i below other next = ap (λ l. get_or l i 0) head_is ∙ counted_place e.time t e.member h.long h.most_members_holds f.member_below i below other next

    pub count_same : order_count_in head₁ ≡ order_count_in t.head
    count_same = place order_count_place (omega arith) (λ z. omega arith) (λ z. omega arith)

    orders_same : orders (with_head head₁ t) ≡ orders t
    unfolding orders
    orders_same = rw count_same

    pub members_same : members_in head₁ ≡ members_in t.head
    members_same = place members_place (omega arith) (λ z. omega arith) (λ z. omega arith)

    pub run_same : lots_run_in head₁ ≡ lots_run_in t.head
    run_same = place lots_run_place (omega arith) (λ z. omega arith) (λ z. omega arith)

    tradable : Tradable head₁ t.prices t.book o
    tradable =
        let c = p.contract_fit e.contract f.contract_below in
        record {
          head_long = head_long;
          prices_long = p.long;
          book_long = b.long;
          most_orders_holds = omega (arith, count_same, h.most_orders_holds);
          contract_below = f.contract_below;
          least_lots = f.least_lots;
          most_lots_holds = f.most_lots_holds;
          most_day_lots = omega (arith, c.most_day_lots, h.most_run);
          most_day_value = omega (arith, c.most_day_value, c.most_day_lots, h.most_run);
          most_side = λ i k. (b.order_fit i (omega (arith, count_same))).most_side;
          ranked = λ i k. let r = b.order_fit i (omega (arith, count_same)) in record { price = r.most_price_holds; number = omega (arith, r.number_below, h.most_accepted) };
          has_lots_holds = λ i k. (b.order_fit i (omega (arith, count_same))).least_lots;
          numbers_distinct = rw count_same b.numbers_distinct;
        }

    placeable : (lotsCrossing : ℕ) → Acceptable t e lotsCrossing → RowsFit (members_in t.head) (lots_run_in t.head) t.lots
        → RowsFit (members_in t.head) (most_price * lots_run_in t.head) t.value → lines_length ≤ length t.lines
        → Placeable (with_head head₁ t) e.kind o
    unfolding orders submit_matched submit_lines would_rest
    placeable lotsCrossing a l v n =
        record {
          tradable = tradable;
          bookable = record {
            long = head_long;
            most_members_holds = omega (arith, members_same, h.most_members_holds);
            lots_fit = rw (members_same, run_same) l;
            value_fit = rw (members_same, run_same) v;
            lines_long = n;
            most_run = rw (run_same, count_same) a.most_run;
          };
          member_below = omega (arith, members_same, f.member_below);
          members_below = λ i k. omega (arith, members_same, (b.order_fit i (omega (arith, count_same))).member_below);
          place = rw count_same a.place;
        }

    crosses : (lotsCrossing : ℕ) → Acceptable t e lotsCrossing → lotsCrossing ≡ crossing_in o (orders_in (order_count_in head₁) t.book)
    unfolding orders
    crosses lotsCrossing a = rw count_same a.crosses

    -- with the order as the code has it
    module _ (o' : Order) (s : o' ≡ o) where
      pub placed : (lotsCrossing : ℕ) → Acceptable t e lotsCrossing → RowsFit (members_in t.head) (lots_run_in t.head) t.lots
          → RowsFit (members_in t.head) (most_price * lots_run_in t.head) t.value → lines_length ≤ length t.lines
          → Placeable (with_head head₁ t) e.kind o' × (lotsCrossing ≡ crossing_in o' (orders_in (order_count_in head₁) t.book))
      placed lotsCrossing a l v n =
          subst (λ y. Placeable (with_head head₁ t) e.kind y × (lotsCrossing ≡ crossing_in y (orders_in (order_count_in head₁) t.book))) (sym s)
          (placeable lotsCrossing a l v n, crosses lotsCrossing a)

      -- what is booked with the time and the counts is what the rules book
      pub submitted : order_booked e.kind o' (with_head head₁ t) ≡ submit_booked t e
      unfolding order_booked submit_booked submit_lines submit_orders would_rest submit_matched
      submitted = ap (λ y. order_booked e.kind y (with_head head₁ t)) s ∙ rw (orders_same, same)
