-- An order is placed, from the steps of the code to what is booked. Assumes nothing.
use mathlib.Core.Path.{◌≡◌, refl, sym, ap, ◌∙◌}
use mathlib.Core.Bool.{true, cond, ◌&&◌}
use mathlib.Core.List.{List, [], ◌∷◌, ◌++◌, flat_map}
use Prim.Native.Nat.{ℕ, ◌+◌, ◌*◌, ◌<◌}
use native.Mathlib.Omega.{arith}
use lib.Dec.{ltb}
use lib.ListN.{length, get_or, length-set}
use lib.Seq.{get_or-set_same, get_or-set_other}
use Rattle.std.specs.Prelude.{Ok}
use Rattle.arith.specs.Lists.{from, over, total}
use Rattle.arith.proofs.Tests.{by_bool}
use Rattle.rules.specs.declared.event.OrderKind.{OrderKind}
use Rattle.rules.specs.declared.order.Order.{Order}
use Rattle.rules.specs.Ranges.{most_orders}
use Rattle.rules.specs.Ledger.{Tables, Line, line_run, members_place, lots_run_place, order_count_place, order_width, with_head, with_book}
use Rattle.rules.specs.Ledger.{with_prices, with_order_count, order_places, orders, with_orders, booked}
use Rattle.rules.specs.Matching.{is_resting, with_lots, matched, deal_lines, with_deals}
use Rattle.tables.specs.Fit.{members_in, lots_run_in, order_count_in, orders_in}
use Rattle.rules.proofs.LinesRun.{booked_none}
use Rattle.matching.specs.declared.levels.Matched.{Matched}
use Rattle.matching.specs.Crossing.{crossing_in}
use Rattle.matching.specs.Deals.{deal_at, deals_in, lines_with}
use Rattle.matching.proofs.Totals.{lines_kept, run_of_lines}
use Rattle.submit.specs.Deals.{Traded, lots_dealt}
use Rattle.deal_lines.specs.Room.{Bookable}
use Rattle.submit.specs.Placing.{Placeable, order_booked}
use Rattle.submit.proofs.Kept.{lines_length_lem}
use Rattle.submit.proofs.Orders.{rest_written}
use Rattle.submit.proofs.Trading.{untraded}

whole : (ls : List Line) (u : Tables) → record { answer = Ok (length ls); after = (booked ls u).after } ≡ booked ls u
unfolding booked
whole ls u = refl

module _ (t : Tables) (kind : OrderKind) (o : Order) (p : Placeable t kind o) where
  abbrev os : List Order
  os = orders_in (order_count_in t.head) t.book

  -- ---- after the deals
  module _ (m : Matched) (head₂ prices₂ book₂ deals : List ℕ) (x : Traded o t.head t.prices t.book m head₂ prices₂ book₂ deals) where
    rests_is : is_resting kind && ltb 0 (matched o os).left ≡ is_resting kind && ltb 0 m.left.0
    rests_is = ap (λ n. is_resting kind && ltb 0 n) x.lots_left

    count_after : order_count_in head₂ ≡ length (matched o os).resting
    count_after = ap (λ l. order_count_in l) x.head_after ∙ get_or-set_same t.head order_count_place _ 0 (omega (arith, p.tradable.head_long))

    pub deals_head : length head₂ ≡ length t.head
    deals_head = ap length x.head_after ∙ length-set t.head order_count_place _

    pub room_left : is_resting kind && ltb 0 m.left.0 ≡ true → order_count_in head₂ < most_orders
    room_left w = omega (arith, count_after, p.place (rests_is ∙ w))

    lines_is : flat_map (deal_lines o) (matched o os).deals ≡ flat_map (lines_with o) (deals_in m.deals deals)
    lines_is = lines_kept o (matched o os).deals ∙ ap (flat_map (lines_with o)) x.deals_kept

    pub deals_members : (j : ℕ) → j < m.deals → (deal_at deals j).member < members_in t.head
    deals_members j k = let r = x.from_book j k in omega (arith, r.member, p.members_below r.place r.below)

    run_is : line_run (flat_map (deal_lines o) (matched o os).deals) ≡ 2 * total lots_dealt (deals_in m.deals deals)
    run_is = ap line_run lines_is ∙ run_of_lines o (deals_in m.deals deals)

    -- ---- what rests, and the lines
    module _ (head₃ book₃ : List ℕ) (rests : head₃ ≡ cond (is_resting kind && ltb 0 m.left.0) (with_order_count (order_count_in head₂ + 1) head₂) head₂)
        (put : book₃ ≡ cond (is_resting kind && ltb 0 m.left.0) (over (order_count_in head₂ * order_width) (order_places (with_lots m.left.0 o)) book₂) book₂) where
      kept_place : (i : ℕ) → (i ≡ order_count_place → ⊥) → get_or head₃ i 0 ≡ get_or t.head i 0
      kept_place i z =
          ap (λ l. get_or l i 0) rests
          ∙ by_bool (λ c. get_or (cond c (with_order_count (order_count_in head₂ + 1) head₂) head₂) i 0 ≡ get_or head₂ i 0) (is_resting kind && ltb 0 m.left.0)
          (λ _. get_or-set_other head₂ order_count_place i _ 0 z) (λ _. refl)
          ∙ ap (λ l. get_or l i 0) x.head_after ∙ get_or-set_other t.head order_count_place i _ 0 z

      rest_length : length head₃ ≡ length t.head
      rest_length =
          ap length rests
          ∙ by_bool (λ c. length (cond c (with_order_count (order_count_in head₂ + 1) head₂) head₂) ≡ length head₂) (is_resting kind && ltb 0 m.left.0)
          (λ _. length-set head₂ order_count_place _) (λ _. refl) ∙ deals_head

      pub rest_members : members_in head₃ ≡ members_in t.head
      rest_members = kept_place members_place (λ z. omega arith)

      rest_run : lots_run_in head₃ ≡ lots_run_in t.head
      rest_run = kept_place lots_run_place (λ z. omega arith)

      pub bookable : Bookable (2 * total lots_dealt (deals_in m.deals deals)) head₃ t.lots t.value t.lines
      bookable =
          let b = p.bookable in
          record {
            long = omega (arith, b.long, rest_length);
            most_members_holds = omega (arith, rest_members, b.most_members_holds);
            lots_fit = rw (rest_members, rest_run) b.lots_fit;
            value_fit = rw (rest_members, rest_run) b.value_fit;
            lines_long = b.lines_long;
            most_run = omega (arith, b.most_run, run_is, rest_run);
          }

      -- the tables once the order rests, and before its lines
      abbrev rested_in : Tables
      rested_in = with_head head₃ (with_prices prices₂ (with_book book₃ t))

      tables_is : rested_in ≡ with_orders
          (cond (is_resting kind && ltb 0 (matched o os).left) ((matched o os).resting ++ (with_lots (matched o os).left o ∷ [])) (matched o os).resting)
          (with_deals o.contract (matched o os).deals t)
      unfolding with_deals
      tables_is =
          let rs = (matched o os).resting in
          let u = with_prices prices₂ t in
          let b = is_resting kind && ltb 0 m.left.0 in
          ap (λ l. with_head l (with_book book₃ u)) rests
          ∙ ap (λ l. with_head (cond b (with_order_count (order_count_in head₂ + 1) head₂) head₂) (with_book l u)) put
          ∙ rest_written b rs (with_lots m.left.0 o) u head₂ book₂ (omega (arith, p.tradable.head_long)) x.head_after x.book_after_holds
          ∙ ap (λ n. with_orders (cond b (rs ++ (with_lots n o ∷ [])) rs) u) (sym x.lots_left)
          ∙ ap (λ c. with_orders (cond c (rs ++ (with_lots (matched o os).left o ∷ [])) rs) u) (sym rests_is)
          ∙ ap (λ l. with_orders (cond (is_resting kind && ltb 0 (matched o os).left) (rs ++ (with_lots (matched o os).left o ∷ [])) rs) (with_prices l t)) x.prices-after

      pub booked_is : (t' : Tables) → t' ≡ (booked (flat_map (lines_with o) (deals_in m.deals deals)) rested_in).after
          → record { answer = Ok (m.deals * 2); after = t' } ≡ order_booked kind o t
      unfolding order_booked orders
      booked_is t' b =
          let ls = flat_map (lines_with o) (deals_in m.deals deals) in
          ap (λ n. record { answer = Ok n; after = t' }) (sym (lines_length_lem deals o m.deals))
          ∙ ap (λ u. record { answer = Ok (length ls); after = u }) b
          ∙ whole ls rested_in
          ∙ ap (booked ls) tables_is
          ∙ ap (λ l. booked l (with_orders
          (cond (is_resting kind && ltb 0 (matched o os).left) ((matched o os).resting ++ (with_lots (matched o os).left o ∷ [])) (matched o os).resting)
          (with_deals o.contract (matched o os).deals t))) (sym lines_is)

  -- ---- no lots cross
  module _ (none : crossing_in o os ≡ 0) where
    pub room : is_resting kind && ltb 0 o.lots.0 ≡ true → order_count_in t.head < most_orders
    room = room_left (record { deals = 0; left = o.lots }) t.head t.prices t.book [] (untraded t.head t.prices t.book o p.tradable none [])

    pub rested : (head₃ book₃ : List ℕ) → head₃ ≡ cond (is_resting kind && ltb 0 o.lots.0) (with_order_count (order_count_in t.head + 1) t.head) t.head
        → book₃ ≡ cond (is_resting kind && ltb 0 o.lots.0) (over (order_count_in t.head * order_width) (order_places (with_lots o.lots.0 o)) t.book) t.book
        → record { answer = Ok 0; after = with_head head₃ (with_book book₃ t) } ≡ order_booked kind o t
    unfolding deals_in from flat_map
    rested head₃ book₃ e f =
        booked_is (record { deals = 0; left = o.lots }) t.head t.prices t.book [] (untraded t.head t.prices t.book o p.tradable none []) head₃ book₃ e f (with_head head₃ (with_book book₃ t))
        (sym (ap (λ y. y.after) (booked_none (with_head head₃ (with_book book₃ t)))))
