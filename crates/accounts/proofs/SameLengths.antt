-- Every list that a record writes fits in its table: orders are 256 at most, lines 200, members 32.
use Prim.Native.Nat.{ℕ, suc, ◌*◌, ◌≤◌, ◌<◌}
use mathlib.Core.Path.{◌≡◌, refl, sym, ◌∙◌}
use mathlib.Core.Bool.{Bool, true, false, not, cond}
use mathlib.Core.List.{List, [], ◌∷◌, flat_map}
use mathlib.Core.Option.{Option, none, some}
use native.Mathlib.Omega.{arith}
use native.Mathlib.Nat.{zero-mul, suc-mul}
use lib.Dec.{eqb, ltb}
use lib.ListN.{length, replicate, length-map, length-append, length-set, length-replicate}
use lib.IntN.{ℤ, pos}
use Rattle.arith.specs.Lists.{All, kept, over}
use Rattle.arith.proofs.Alls.{all_map}
use Rattle.arith.proofs.EachBlock.{in_each_length}
use Rattle.arith.proofs.Overs.{over_length}
use Rattle.arith.proofs.Tests.{by_bool}
use Rattle.rules.specs.Ledger.{book_length, head_length, lines_length, rows_length}
use Rattle.rules.specs.Ranges.{contract_count, term_count, most_price}
use Rattle.rules.specs.declared.event.CloseOutTerms.{CloseOutTerms}
use Rattle.rules.specs.declared.event.Leg.{Leg}
use Rattle.rules.specs.declared.event.Submission.{Submission}
use Rattle.rules.specs.declared.order.Order.{Order}
use Rattle.rules.specs.Answers.{Outcome, reply_of}
use Rattle.rules.specs.ContractTerms.{open_contracts}
use Rattle.rules.specs.Header.{Header}
use Rattle.rules.specs.Ledger.{Tables, Line, with_head, with_prices, members, day, calendar, time, with_time, with_mark, orders, with_orders, order_places, line_places}
use Rattle.rules.specs.Ledger.{line_lots, line_value, booked, without_submits, timed, fresh_prices, fresh_rows, fresh}
use Rattle.rules.specs.Ledger.{members_place, submits_from, order_width, line_width}
use Rattle.rules.specs.Ranges.{most_members, most_orders, least_lines, most_legs}
use Rattle.rules.specs.Matching.{Deal, deal_lines, incoming, submit_matched, submit_lines, submit_orders, with_deals, counted, submit_booked}
use Rattle.rules.specs.Synthetic.{numbered, named_legs, leg_line, proposal_lines, used_by_legs, proposal_booked}
use Rattle.rules.specs.CloseOfDay.{with_ggfs, without_deals, priced, cascaded, all_cascaded, closing_contracts, is_of_any, with_closed, on_day, close_booked}
use Rattle.rules.specs.Default.{default_booked, close_out_lines, close_out_booked}
use Rattle.rules.specs.Refusals.{submit_causes}
use Rattle.rules.specs.Accounts.{is_accepted}
use Rattle.rules.proofs.SoundTables.{Long, Undamaged}
use Rattle.rules.proofs.SoundEvents.{SoundSubmission}
use Rattle.accounts.specs.Lengths.{SameLengths}
use Rattle.rules.proofs.SoundHeaders.{SoundHeader}
use Rattle.accounts.proofs.Runs.{orders_same}
use Rattle.rules.proofs.Cascade.{cascaded_length}
use Rattle.accounts.proofs.Rows.{posted_length}
use Rattle.accounts.proofs.Fresh.{head_length_lem}
use Rattle.accounts.proofs.Closes.{closing_today}
use Rattle.accounts.proofs.CloseOutLines.{close_out_few}
use Rattle.accounts.proofs.Remains.{Remain, remain_length, kept_remain, legs_remain}
use Rattle.accounts.proofs.Books.{orders_count, submit_deals}
use Rattle.accounts.proofs.HeadStays.{submit_few}
use Rattle.accounts.proofs.GgfStays.{written_length}
use Rattle.accounts.proofs.Places.{written_place}

pub same_lengths : (t : Tables) → SameLengths t t
same_lengths t = record { head = refl; prices = refl; lots = refl; value = refl; book = refl; lines = refl }

then_lengths : {t u v : Tables} → SameLengths t u → SameLengths u v → SameLengths t v
then_lengths a b = record {
  head = b.head ∙ a.head;
  prices = b.prices ∙ a.prices;
  lots = b.lots ∙ a.lots;
  value = b.value ∙ a.value;
  book = b.book ∙ a.book;
  lines = b.lines ∙ a.lines;
}

-- a new head alone, as long as the old one
head_lengths : (t : Tables) (l : List ℕ) → length l ≡ length t.head → SameLengths t (with_head l t)
head_lengths t l e = record { head = e; prices = refl; lots = refl; value = refl; book = refl; lines = refl }

-- ---- what is written one thing after the other
each_places : {A B : Type 0} (w : ℕ) (places : B → List A) → ((b : B) → length (places b) ≡ w) → (bs : List B) → length (flat_map places bs) ≡ length bs * w
unfolding flat_map
each_places w places e [] = sym (zero-mul w)
each_places w places e (b ∷ bs) = simp length-append (omega (arith, e b, each_places w places e bs, suc-mul (length bs) w))

booked_lengths : (ls : List Line) (u : Tables) → length ls ≤ least_lines → lines_length ≤ length u.lines → SameLengths u (booked ls u).after
unfolding booked
booked_lengths ls u few long = record {
  head = simp length-set;
  prices = refl;
  lots = posted_length line_lots ls u.lots;
  value = posted_length line_value ls u.value;
  book = refl;
  lines = over_length 0 (flat_map line_places ls) u.lines (omega (arith, each_places line_width line_places (λ _. refl) ls));
}

written_lengths : (os : List Order) (u : Tables) → length os ≤ most_orders → book_length ≤ length u.book → SameLengths u (with_orders os u)
unfolding with_orders
written_lengths os u few long = record {
  head = simp length-set;
  prices = refl;
  lots = refl;
  value = refl;
  book = over_length 0 (flat_map order_places os) u.book (omega (arith, each_places order_width order_places (λ _. refl) os));
  lines = refl;
}

-- ---- lists of lines
-- two lines a deal
deal_lines_lem : (o : Order) (ds : List Deal) → length (flat_map (deal_lines o) ds) ≡ length ds * 2
deal_lines_lem o ds = each_places 2 (deal_lines o) (λ _. refl) ds

named_few : (os : List Order) (gs : List Leg) → length (named_legs os gs) ≤ length gs
unfolding named_legs
named_few os [] = omega arith
named_few os (g ∷ gs) = go (numbered g.order os) refl (named_few os gs)
  where
    go : (b : Option Order) → numbered g.order os ≡ b → length (named_legs os gs) ≤ length gs → length (named_legs os (g ∷ gs)) ≤ suc (length gs)
    go none e h = rw (e, named_legs) (omega arith)
    go (some o) e h = rw (e, named_legs) (omega arith)

-- ---- what records are made of
module _ (t : Tables) (u : Undamaged t) where
  without_lengths : (v : Tables) → members v ≤ most_members → head_length ≤ length v.head → length (without_submits v).head ≡ length v.head
  unfolding without_submits
  without_lengths v m l = over_length submits_from (replicate (members v) 0) v.head (omega (arith, length-replicate {A = ℕ} (members v) 0))

  timed_lengths : (n : ℕ) → SameLengths t (timed n t)
  unfolding timed
  timed_lengths n =
      by_bool (λ b. SameLengths t (cond b (with_head (with_time n (without_submits t).head) t) t)) (ltb (time t) n)
      (λ _. head_lengths t _ (simp length-set (without_lengths t u.head.members_range.to u.long.head))) (λ _. same_lengths t)

  -- what remains of the orders fits
  remain_few : (os : List Order) → Remain (orders t) os → length os ≤ most_orders
  remain_few os x = omega (arith, remain_length x, orders_count t, u.head.orders≤)

  -- orders and lines written in tables v, as long as t
  both_lengths : (v : Tables) (os : List Order) (ls : List Line) → SameLengths t v → length os ≤ most_orders → length ls ≤ least_lines → SameLengths t (booked ls (with_orders os v)).after
  both_lengths v os ls a o l =
      let w = then_lengths a (written_lengths os v o (omega (arith, a.book, u.long.book))) in
      then_lengths w (booked_lengths ls (with_orders os v) l (omega (arith, w.lines, u.lines)))

  -- the close of day
  cascaded_lengths : (m : ℕ) (cs : List ℕ) (l : List ℤ) → m ≤ 32 → All (λ c. c < term_count) cs → rows_length ≤ length l → length (all_cascaded m cs l) ≡ length l
  unfolding all_cascaded
  cascaded_lengths m [] l k h s = refl
  cascaded_lengths m (c ∷ cs) l k h s =
      let one = cascaded_length m c l s h.0 k in
      cascaded_lengths m cs (cascaded m c l) k h.1 (omega arith) ∙ one

  priced_lengths : (n : ℕ) → SameLengths t (priced n t)
  unfolding priced without_deals
  priced_lengths n =
      let cs = open_contracts (calendar t) (day t) in
      let same = written_length t u n cs t.prices in
      record {
        head = refl;
        prices = in_each_length 5 (over 3 (0 ∷ 0 ∷ [])) (λ b e. over_length 3 (0 ∷ 0 ∷ []) b (omega arith) ∙ e) contract_count (with_ggfs t n cs t.prices) (omega (arith, u.long.prices)) ∙ same;
        lots = refl;
        value = refl;
        book = refl;
        lines = refl;
      }

  evening_lengths : (n : ℕ) → SameLengths t (close_booked t n).after
  unfolding close_booked with_closed priced on_day
  evening_lengths n =
      let p = priced n t in
      let cs = closing_contracts t in
      let few = u.head.members_range.to in
      let listed = all_map _ (λ c. c < term_count) cs (λ c q. q.0) (closing_today t) in
      let os = kept (λ o. not (is_of_any cs o)) (orders p) in
      let w = then_lengths (priced_lengths n) (written_lengths os p (rw (orders_same t p refl refl) (remain_few _ (kept_remain _ (orders t)))) u.long.book) in
      let v = with_closed cs p in
      let day = without_lengths v (omega (arith, written_place os p members_place (λ q. omega arith), few)) (omega (arith, w.head, u.long.head)) in
      record {
        head = simp length-set (day ∙ w.head);
        prices = w.prices;
        lots = cascaded_lengths (members t) cs t.lots few listed u.long.lots;
        value = cascaded_lengths (members t) cs t.value few listed u.long.value;
        book = w.book;
        lines = w.lines;
      }

-- ---- making a ledger
zeros_fit : (w n : ℕ) (b : List ℤ) → n ≤ w → length b ≡ w → length (over 0 (replicate n (pos 0)) b) ≡ w
zeros_fit w n b h e = over_length 0 (replicate n (pos 0)) b (omega (arith, length-replicate {A = ℤ} n (pos 0))) ∙ e

pub fresh_lengths : (h : Header) (t : Tables) → SoundHeader h → Long t → SameLengths t (fresh h t)
unfolding fresh fresh_prices fresh_rows
fresh_lengths h t f l =
    let n = h.members in
    let rows : (k : List ℤ) → rows_length ≤ length k → length (fresh_rows n k) ≡ length k = λ k s.
    in_each_length 32 (over 0 (replicate n (pos 0))) (λ b e. zeros_fit 32 n b f.members_range.to e) contract_count k s in
    record {
      head = head_length_lem h f t.head l.head;
      prices = in_each_length 5 (λ five. 0 ∷ 1 ∷ most_price ∷ 0 ∷ 0 ∷ []) (λ _ _. refl) contract_count t.prices l.prices;
      lots = rows t.lots l.lots;
      value = rows t.value l.value;
      book = refl;
      lines = refl;
    }

-- tables that are long enough stay so
pub stays_long : {t u : Tables} → SameLengths t u → Long t → Long u
stays_long a l = record {
  head = omega (arith, a.head, l.head);
  prices = omega (arith, a.prices, l.prices);
  lots = omega (arith, a.lots, l.lots);
  value = omega (arith, a.value, l.value);
  book = omega (arith, a.book, l.book);
}

-- ---- each kind
-- lengths stay, and an accepted record's lines fit
pub record Fits (t : Tables) (o : Outcome Tables) : Type 0 where
  pub lengths : SameLengths t o.after
  pub few : is_accepted o.answer ≡ true → (reply_of o.answer).detail ≤ least_lines

booked_fits : (t u : Tables) (ls : List Line) → length ls ≤ least_lines → SameLengths t (booked ls u).after → Fits t (booked ls u)
unfolding booked
booked_fits t u ls few a = record { lengths = a; few = λ _. few }

module _ (t : Tables) (u : Undamaged t) where
  -- what remains of the orders is written in tables v, as long as t
  removed_fits : (v : Tables) (p : Order → Bool) → SameLengths t v → Fits t (booked [] (with_orders (kept p (orders t)) v))
  removed_fits v p a =
      let os = kept p (orders t) in
      booked_fits t (with_orders os v) [] (omega arith) (both_lengths t u v os [] a (remain_few t u os (kept_remain p (orders t))) (omega arith))

  pub submit_lengths : (e : Submission) → SoundSubmission (members t) e → All (λ c. c.0 ≡ false) (submit_causes t e) → Fits t (submit_booked t e)
  unfolding submit_booked submit_lines with_deals counted
  submit_lengths e f n =
      let few : length (submit_lines t e) ≤ least_lines = omega (arith, deal_lines_lem (incoming t e) (submit_matched t e).deals, submit_deals t e u.book_sound_holds, f.lots.to) in
      let a = timed_lengths t u e.time in
      booked_fits t _ (submit_lines t e) few
      (both_lengths t u (with_deals e.contract (submit_matched t e).deals (counted e.member (timed e.time t))) (submit_orders t e) (submit_lines t e)
      (record { head = simp length-set a.head; prices = simp length-set a.prices; lots = a.lots; value = a.value; book = a.book; lines = a.lines })
      (submit_few t u.head_sound_holds u.long.head e f.time≤ f.member< n) few)

  pub cancel_lengths : (n : ℕ) (p : Order → Bool) → Fits t (booked [] (with_orders (kept p (orders t)) (timed n t)))
  cancel_lengths n p = removed_fits (timed n t) p (timed_lengths t u n)

  pub limits_lengths : (l : List ℕ) → length l ≡ length t.prices → Fits t (booked [] (with_prices l t))
  limits_lengths l e =
      let a : SameLengths t (with_prices l t) = record { head = refl; prices = e; lots = refl; value = refl; book = refl; lines = refl } in
      booked_fits t (with_prices l t) [] (omega arith) (then_lengths a (booked_lengths [] (with_prices l t) (omega arith) u.lines))

  pub proposal_lengths : (legs : List Leg) → length legs ≤ most_legs → Fits t (proposal_booked t legs)
  unfolding proposal_booked proposal_lines
  proposal_lengths legs most =
      let os = used_by_legs legs (orders t) in
      let few : length (proposal_lines t legs) ≤ least_lines = omega (arith, length-map (named_legs (orders t) legs) leg_line, named_few (orders t) legs) in
      booked_fits t _ (proposal_lines t legs) few (both_lengths t u t os (proposal_lines t legs) (same_lengths t) (remain_few t u os (legs_remain legs (orders t))) few)

  pub default_lengths : (m : ℕ) → Fits t (default_booked t m)
  unfolding default_booked
  default_lengths m = removed_fits (with_head (with_mark m t.head) t) (λ o. not (eqb o.member m)) (head_lengths t (with_mark m t.head) (simp length-set))

  pub close_out_lengths : (e : CloseOutTerms) → Fits t (close_out_booked t e)
  unfolding close_out_booked
  close_out_lengths e =
      let few : length (close_out_lines t e) ≤ least_lines = omega (arith, close_out_few t e, u.head.members_range.to) in
      booked_fits t t (close_out_lines t e) few (booked_lengths (close_out_lines t e) t few u.lines)

  pub close_lengths : (n : ℕ) → Fits t (close_booked t n)
  unfolding close_booked
  close_lengths n = record { lengths = evening_lengths t u n; few = λ _. omega arith }
