-- A record of each kind on two ledgers that agree but for surplus: the same causes, the same answer, the same lines. Assumes nothing.
use Prim.Native.Nat.{ℕ, ◌+◌, ◌*◌, ◌≤◌, ◌<◌}
use mathlib.Core.Path.{◌≡◌, refl, sym, ap, subst, ◌∙◌}
use mathlib.Core.Bool.{Bool, true, false, cond, not, ◌&&◌}
use mathlib.Core.List.{List, [], ◌∷◌, ◌++◌, map, flat_map}
use native.Mathlib.Omega.{arith}
use lib.Dec.{eqb, ltb}
use lib.ListN.{length}
use lib.IntN.{nat_abs}
use Rattle.std.specs.Prelude.{Some, None, Ok}
use Rattle.arith.specs.Lists.{All, every, kept, total, from}
use Rattle.arith.proofs.Alls.{all_map}
use Rattle.rules.specs.declared.event.Cancellation.{Cancellation}
use Rattle.rules.specs.declared.event.CloseOutTerms.{CloseOutTerms}
use Rattle.rules.specs.declared.event.Leg.{Leg}
use Rattle.rules.specs.declared.event.NewDayLimits.{NewDayLimits}
use Rattle.rules.specs.declared.event.Submission.{Submission}
use Rattle.rules.specs.declared.order.Side.{Side}
use Rattle.rules.specs.declared.order.Side.TheVariants.{Buy, Sell}
use Rattle.rules.specs.Answers.{Outcome}
use Rattle.rules.specs.Ranges.{contract_count, term_count, most_members}
use Rattle.rules.specs.Days.{next_business_day}
use Rattle.rules.specs.ContractTerms.{days_of, open_contracts}
use Rattle.rules.specs.Ledger.{Tables, Line, members, holiday_count, order_count, is_open, day, calendar, defaulted, lots_at, orders, booked, first_lines}
use Rattle.rules.specs.Matching.{matched, deal_lines, incoming, submit_matched, submit_lines, is_resting, would_rest, with_lots, submits_at, resting_lots, above_limit, submit_orders, submit_booked}
use Rattle.rules.specs.Synthetic.{Named, named_legs, price_within, price_allowed, acceptable, proposal_lines, used_by_legs, proposal_booked}
use Rattle.rules.specs.CloseOfDay.{has_next_day, next_day, closing_contracts, priced, close_booked}
use Rattle.rules.specs.Default.{default_booked, by_member, defaulted_longs, defaulted_shorts, smaller_total, netted_longs, netted_shorts, netting_changes, longs_remaining, shorts_remaining, lots_remaining, others_lots, open_weight}
use Rattle.rules.specs.Default.{weights, taken, defaulted_changes, taker_changes, close_out_lines, close_out_booked}
use Rattle.rules.specs.Refusals.{is_cancelled, submit_causes, cancel_causes, day_limits_causes, proposal_causes, default_causes, close_out_causes, close_causes, cancel_booked, day_limits_booked}
use Rattle.rules.specs.Accounts.{lines_of}
use Rattle.rules.proofs.SoundEvents.{SoundSubmission}
use Rattle.rules.proofs.SoundTables.{Long, Undamaged}
use Rattle.accounts.proofs.Closes.{closing_today}
use Rattle.accounts.proofs.CloseOutLines.{close_out_fits}
use Rattle.accounts.proofs.Lines.{Fits}
use Rattle.accounts.proofs.Proposals.{named_all, proposal_fits}
use Rattle.accounts.proofs.Runs.{orders_same, sound_of}
use Rattle.accounts.proofs.Submits.{submit_fits}
use Rattle.accounts.proofs.Written.{lines_printed}
use Rattle.replay.specs.Surplus.{SameButSurplus}
use Rattle.replay.proofs.Same.{map_from_same, same_members, same_day, same_time, same_accepted, same_run, same_limit, same_defaulted, same_submits, same_lots, same_ggf, same_low, same_high, same_orders, same_calendar, same_open}
use Rattle.replay.proofs.Alike.{Alike, alike_of, with_orders_lem, with_booked, with_time_lem, with_counted, with_mark_lem, with_day_lem, with_deals_lem, with_limits}
use Rattle.replay.proofs.Closing.{open_below, with_ggfs_lem, with_closed_lem}

-- ---- two outcomes: the same answer, the same lines, and ledgers that agree but for surplus
pub record OutcomesAlike (n k : ℕ) (o o' : Outcome Tables) : Type 0 where
  pub answer : o.answer ≡ o'.answer
  pub lines : lines_of o.answer o.after.lines ≡ lines_of o'.answer o'.after.lines
  pub count : ℕ
  pub ledger : Alike n k count o.after o'.after

booked_alike : {n k q : ℕ} {t u : Tables} → Alike n k q t u → n ≤ most_members → (ls ls' : List Line) → ls ≡ ls' → All (Fits n) ls → OutcomesAlike n k (booked ls t) (booked ls' u)
unfolding booked
booked_alike {n} {k} {q} {t} {u} a few ls ls' e fit = record {
  answer = ap (λ (x : List Line). Ok (length x)) e;
  lines = lines_printed ls t.lines ∙ e ∙ sym (lines_printed ls' u.lines);
  count = q;
  ledger = subst (λ (x : List Line). Alike n k q (booked ls t).after (booked x u).after) e (with_booked a few ls fit);
}

every_alike : {A : Type 0} (p q : A → Bool) (l : List A) → All (λ x. p x ≡ q x) l → every p l ≡ every q l
unfolding every
every_alike p q [] h = refl
every_alike p q (x ∷ l) h = λ r. h.0 r && every_alike p q l h.1 r

total_alike : (f g : ℕ → ℕ) (l : List ℕ) → All (λ c. f c ≡ g c) l → total f l ≡ total g l
unfolding total
total_alike f g [] h = refl
total_alike f g (x ∷ l) h = λ r. h.0 r + total_alike f g l h.1 r

pub priced_orders : (n : ℕ) (t : Tables) → orders (priced n t) ≡ orders t
unfolding priced
priced_orders n t = orders_same t (priced n t) refl refl

module _ (t u : Tables) (s : SameButSurplus t u) (a : Undamaged t) (l : Long u) where
  abbrev few : members t ≤ most_members
  few = a.head.members_range.to

  start : Alike (members t) (holiday_count t) (order_count t) t u
  start = alike_of t u s a.long l

  calendars : calendar t ≡ calendar u
  calendars = same_calendar t u s a.head.holidays≤ a.long.head l.head

  opens : (c : ℕ) → is_open t c ≡ is_open u c
  opens c = same_open t u s a.head.holidays≤ a.long.head l.head c

  os : orders t ≡ orders u
  os = same_orders t u s

  -- ---- submit
  module _ (e : Submission) (f : SoundSubmission (members t) e) where
    same_incoming : incoming t e ≡ incoming u e
    same_incoming = λ r. record {
      number = same_accepted t u s r;
      member = e.member;
      contract = e.contract;
      side = e.side;
      price = e.price;
      lots = e.lots;
      day = record { 0 = same_day t u s r };
      time = e.time;
    }

    same_matched : submit_matched t e ≡ submit_matched u e
    unfolding submit_matched
    same_matched = λ r. matched (same_incoming r) (os r)

    same_lines : submit_lines t e ≡ submit_lines u e
    unfolding submit_lines
    same_lines = λ r. flat_map (deal_lines (same_incoming r)) (same_matched r).deals

    same_rest : would_rest t e ≡ would_rest u e
    unfolding would_rest
    same_rest = λ r. is_resting e.kind && ltb 0 (same_matched r).left

    same_at : submits_at t e.time e.member ≡ submits_at u e.time e.member
    unfolding submits_at
    same_at = rw (same_time t u s, same_submits t u s e.member f.member<)

    same_above : above_limit t e ≡ above_limit u e
    unfolding above_limit resting_lots
    same_above = rw (os, same_limit t u s e.member f.member<, same_lots t u s e.member f.member< e.contract f.contract<)

    pub submit_causes_lem : submit_causes t e ≡ submit_causes u e
    submit_causes_lem =
        rw (
          same_time t u s,
          same_defaulted t u s e.member f.member<,
          opens e.contract,
          same_low t u s e.contract f.contract<,
          same_high t u s e.contract f.contract<,
          same_at,
          same_above,
          same_matched,
          same_rest,
          same_lines,
          same_run t u s,
          same_accepted t u s,
        )

    same_after : submit_orders t e ≡ submit_orders u e
    unfolding submit_orders
    same_after = λ r. let m = same_matched r in cond (same_rest r) (m.resting ++ (with_lots m.left (same_incoming r) ∷ [])) m.resting

    pub submit_alike : OutcomesAlike (members t) (holiday_count t) (submit_booked t e) (submit_booked u e)
    unfolding submit_booked
    submit_alike =
        rw (← same_after, ← same_matched)
        (booked_alike (with_orders_lem (with_deals_lem (with_counted (with_time_lem start few e.time) few e.member f.member<) e.contract f.contract< (submit_matched t e).deals) (submit_orders t e)) few
        (submit_lines t e) (submit_lines u e) same_lines (submit_fits t (sound_of a) e f.contract< f.member<))

  -- ---- cancel, day limits, default
  pub cancel_causes_lem : (e : Cancellation) → cancel_causes t e ≡ cancel_causes u e
  cancel_causes_lem e = rw (same_time t u s, os)

  pub cancel_alike : (e : Cancellation) → OutcomesAlike (members t) (holiday_count t) (cancel_booked t e) (cancel_booked u e)
  cancel_alike e = rw (← os) (booked_alike (with_orders_lem (with_time_lem start few e.time) (kept (λ o. not (is_cancelled e o)) (orders t))) few [] [] refl tt)

  pub limits_causes : (e : NewDayLimits) → day_limits_causes t e ≡ day_limits_causes u e
  limits_causes e = rw (opens e.contract)

  pub limits_alike : (e : NewDayLimits) → e.contract < contract_count → OutcomesAlike (members t) (holiday_count t) (day_limits_booked t e) (day_limits_booked u e)
  limits_alike e h = booked_alike (with_limits start e.contract e.low.0 e.high.0 h) few [] [] refl tt

  pub default_causes_lem : (m : ℕ) → m < members t → default_causes t m ≡ default_causes u m
  default_causes_lem m h = rw (same_defaulted t u s m h)

  pub default_alike : (m : ℕ) → m < members t → OutcomesAlike (members t) (holiday_count t) (default_booked t m) (default_booked u m)
  unfolding default_booked
  default_alike m h = rw (← os) (booked_alike (with_orders_lem (with_mark_lem start few m h) (kept (λ o. not (eqb o.member m)) (orders t))) few [] [] refl tt)

  -- ---- proposal
  module _ (legs : List Leg) where
    same_price : (side : Side) (n : Named) → n.order.contract < contract_count → price_within t side n ≡ price_within u side n
    same_price Sell n h = rw (same_high t u s n.order.contract h)
    same_price Buy n h = rw (same_low t u s n.order.contract h)

    same_prices : every (price_allowed t) (named_legs (orders t) legs) ≡ every (price_allowed u) (named_legs (orders t) legs)
    unfolding price_allowed
    same_prices =
        every_alike (price_allowed t) (price_allowed u) (named_legs (orders t) legs)
        (all_map (λ n. n.order.contract < contract_count) _ (named_legs (orders t) legs) (λ n h. same_price n.order.side n h)
        (named_all (λ o. o.contract < contract_count) (orders t) legs (all_map _ (λ o. o.contract < contract_count) (orders t) (λ o q. q.contract<) a.book.each)))

    same_acceptable : acceptable t legs ≡ acceptable u legs
    unfolding acceptable
    same_acceptable = rw (same_prices, os, calendars)

    same_proposal : proposal_lines t legs ≡ proposal_lines u legs
    unfolding proposal_lines
    same_proposal = rw os

    pub proposal_causes_lem : proposal_causes t legs ≡ proposal_causes u legs
    proposal_causes_lem = rw (same_acceptable, same_proposal, same_run t u s)

    pub proposal_alike : OutcomesAlike (members t) (holiday_count t) (proposal_booked t legs) (proposal_booked u legs)
    unfolding proposal_booked
    proposal_alike =
        rw (← os) (booked_alike (with_orders_lem start (used_by_legs legs (orders t))) few (proposal_lines t legs) (proposal_lines u legs) same_proposal (proposal_fits t (sound_of a) legs))

  -- ---- close of day
  same_next : has_next_day t ≡ has_next_day u
  unfolding has_next_day
  same_next = λ r. elim (next_business_day (calendars r) (same_day t u s r)) [ Some d ↦ true | None ↦ false ]

  same_next_day : next_day t ≡ next_day u
  unfolding next_day
  same_next_day = λ r. elim (next_business_day (calendars r) (same_day t u s r)) [ Some d ↦ d.0 | None ↦ same_day t u s r ]

  same_closing : closing_contracts t ≡ closing_contracts u
  unfolding closing_contracts
  same_closing = rw (calendars, same_day t u s)

  pub close_causes_lem : (n : ℕ) → close_causes t n ≡ close_causes u n
  close_causes_lem n = rw (same_time t u s, same_next)

  pub close_alike : (n : ℕ) → OutcomesAlike (members t) (holiday_count t) (close_booked t n) (close_booked u n)
  unfolding close_booked first_lines from
  close_alike n =
      let p = with_ggfs_lem start os calendars n in
      let kept-orders = priced_orders n t ∙ os ∙ sym (priced_orders n u) in
      let listed = all_map _ (λ c. c < term_count) (closing_contracts t) (λ c q. q.0) (closing_today t) in
      rw (← same_closing, ← same_next_day)
      (record { answer = refl; lines = refl; count = _; ledger = with_day_lem (with_closed_lem p kept-orders few (closing_contracts t) listed) few (next_day t) })

  -- ---- close-out
  module _ (e : CloseOutTerms) (h : e.contract < contract_count) where
    by_member_lem : {A : Type 0} (f g : ℕ → A) → ((m : ℕ) → m < members t → f m ≡ g m) → by_member t f ≡ by_member u g
    by_member_lem f g q = map_from_same f g 0 (members t) (λ m _ k. q m (omega arith)) ∙ ap (λ n. map g (from 0 n)) (same_members t u s)

    longs : defaulted_longs t e.contract ≡ defaulted_longs u e.contract
    unfolding defaulted_longs
    longs = by_member_lem _ _ (λ m k. rw (same_defaulted t u s m k, same_lots t u s m k e.contract h))

    shorts : defaulted_shorts t e.contract ≡ defaulted_shorts u e.contract
    unfolding defaulted_shorts
    shorts = by_member_lem _ _ (λ m k. rw (same_defaulted t u s m k, same_lots t u s m k e.contract h))

    others : others_lots t e.contract ≡ others_lots u e.contract
    unfolding others_lots
    others = by_member_lem _ _ (λ m k. rw (same_defaulted t u s m k, same_lots t u s m k e.contract h))

    weight : (m : ℕ) → m < members t → open_weight t m ≡ open_weight u m
    unfolding open_weight
    weight m k =
        total_alike (λ c. days_of (calendar t) c * nat_abs (lots_at t c m)) (λ c. days_of (calendar t) c * nat_abs (lots_at u c m)) (open_contracts (calendar t) (day t))
        (all_map (λ c. c < contract_count) _ (open_contracts (calendar t) (day t)) (λ c b. rw (same_lots t u s m k c b)) (open_below (calendar t) (day t)))
        ∙ rw (calendars, same_day t u s)

    all_weights : by_member t (λ m. cond (defaulted t m) 0 (open_weight t m)) ≡ by_member u (λ m. cond (defaulted u m) 0 (open_weight u m))
    all_weights = by_member_lem _ _ (λ m k. rw (same_defaulted t u s m k, weight m k))

    left : lots_remaining t e.contract ≡ lots_remaining u e.contract
    unfolding lots_remaining longs_remaining shorts_remaining netted_longs netted_shorts smaller_total
    left = rw (longs, shorts)

    same_weights : weights t e ≡ weights u e
    unfolding weights
    same_weights = rw (all_weights, others, left)

    same_taken : taken t e ≡ taken u e
    unfolding taken
    same_taken = rw (left, same_weights)

    same_close_out : close_out_lines t e ≡ close_out_lines u e
    unfolding close_out_lines netting_changes defaulted_changes taker_changes longs_remaining shorts_remaining netted_longs netted_shorts smaller_total
    same_close_out = rw (same_taken, same_ggf t u s e.contract h, longs, shorts)

    pub close_out_causes_lem : close_out_causes t e ≡ close_out_causes u e
    close_out_causes_lem = rw (opens e.contract, same_ggf t u s e.contract h, longs, shorts, left, same_weights, same_close_out, same_run t u s)

    pub close_out_alike : OutcomesAlike (members t) (holiday_count t) (close_out_booked t e) (close_out_booked u e)
    unfolding close_out_booked
    close_out_alike = booked_alike start few (close_out_lines t e) (close_out_lines u e) same_close_out (close_out_fits t e h)
