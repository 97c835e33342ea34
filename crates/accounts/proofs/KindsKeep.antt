-- What each kind of record keeps, of tables of which nothing is known but that they are not damaged: one entry a kind.
-- A new kind adds its entry to `kind_keeps`; what holds of every call follows from it.
use mathlib.Core.Path.{◌≡◌, refl}
use mathlib.Core.Bool.{Bool, true, false, not}
use mathlib.Core.List.{List, []}
use Prim.Native.Nat.{ℕ, ◌≤◌}
use native.Mathlib.Omega.{arith}
use lib.ListN.{length, length-set}
use borrow.Author.Tests.{not-false}
use Rattle.std.specs.Prelude.{Some}
use Rattle.arith.specs.Lists.{from}
use Rattle.arith.proofs.Alls.{all_every}
use Rattle.arith.proofs.Tests.{and_left}
use Rattle.rules.specs.declared.event.Event.{Event}
use Rattle.rules.specs.declared.event.Event.TheVariants.{Submit, Cancel, DayLimits, Proposal, Default, CloseOut, CloseOfDay}
use Rattle.rules.specs.declared.event.Leg.{Leg}
use Rattle.rules.specs.declared.order.Order.{Order}
use Rattle.rules.specs.Answers.{Outcome}
use Rattle.rules.specs.Days.{in_span, business_day}
use Rattle.rules.specs.Header.{Header, calendar_of, day_sound}
use Rattle.rules.specs.Ledger.{Tables, members, day, lots_run, lots_run_place, orders, first_lines, calendar, head_length, prices_length}
use Rattle.rules.specs.Records.{is_close_of_day, leg_sound, event_sound}
use Rattle.rules.specs.CloseOfDay.{close_booked}
use Rattle.rules.specs.Refusals.{head_sound, prices_sound, is_cancelled, kind_booked}
use Rattle.rules.specs.Accounts.{lines_of, day_after_event}
use Rattle.rules.proofs.SoundEvents.{submission, cancel_time, new_day_limits, proposal, default_member, close_out_contract}
use Rattle.rules.proofs.SoundTables.{Undamaged}
use Rattle.accounts.specs.EveryList.{Uncrossed, RisingNumbers, NoneDefaulted}
use Rattle.accounts.proofs.Runs as runs
use Rattle.accounts.proofs.Runs.{Runs, sound_of}
use Rattle.accounts.proofs.Calls.{Does}
use Rattle.accounts.proofs.EachKind.{NoCause}
use Rattle.accounts.proofs.Places.{close_place}
use Rattle.accounts.proofs.OrdersAfter.{cancel_remain, limits_remain, proposal_remain, default_remain, close_out_remain, close_remain}
use Rattle.accounts.proofs.Bounds.{WithinRun}
use Rattle.accounts.proofs.SameLengths.{Fits, submit_lengths, cancel_lengths, limits_lengths, proposal_lengths, default_lengths, close_out_lengths, close_lengths}
use Rattle.accounts.proofs.HeadStays.{submit_head, cancel_head, limits_head, proposal_head, default_head, close_out_head, close_head}
use Rattle.accounts.proofs.PricesStay.{orders_priced, submit_prices, cancel_prices, limits_prices, proposal_prices, default_prices, close_out_prices, close_prices}
use Rattle.accounts.proofs.Books.{BookKept, submit_book, cancel_book, limits_book, proposal_book, default_book, close_out_book, close_book}
use Rattle.accounts.proofs.RowsStay.{Posts, within_posted, submit_posts, cancel_posts, limits_posts, proposal_posts, default_posts, close_out_posts, close_rows}
use Rattle.accounts.proofs.GgfStays.{Found, submit_found, cancel_found, limits_found, proposal_found, default_found, close_out_found, close_found}
use Rattle.accounts.proofs.Marks.{submit_marks, cancel_marks, limits_marks, proposal_marks, default_marks, close_out_marks, close_marks}
use Rattle.accounts.proofs.Crossed.{remain_uncrossed, submit_uncrossed}
use Rattle.accounts.proofs.Remains.{remain_rising}
use Rattle.accounts.proofs.Rising.{submit_rising}
use Rattle.accounts.proofs.Submits.{submit_does}
use Rattle.accounts.proofs.Proposals.{proposal_does}
use Rattle.accounts.proofs.OtherKinds.{cancel_does, default_does, limits_does, close_out_does}
use Rattle.accounts.proofs.Closes.{close_shows}

-- a call that adds rows to rows: it prints nothing, the lots run stands, and the bound that cascades keep is kept
pub record Cascades (t : Tables) (o : Outcome Tables) : Type 0 where
  pub printed : lines_of o.answer o.after.lines ≡ []
  pub run : lots_run o.after ≡ lots_run t
  pub within : WithinRun t → WithinRun o.after

-- what is shown of the rows
abbrev pub RowsMove : Bool → Tables → Outcome Tables → Type 0
RowsMove false t o = Posts t o
RowsMove true t o = Cascades t o

pub within_moved : (b : Bool) (t : Tables) (o : Outcome Tables) → RowsMove b t o → WithinRun t → WithinRun o.after
within_moved false t o p = within_posted t o p
within_moved true t o p = p.within

pub record Keeps (e : Event) (t : Tables) (o : Outcome Tables) : Type 0 where
  -- the lengths of the tables, and 200 lines at most
  pub fits : Fits t o
  pub head : head_sound o.after ≡ true
  pub prices : prices_sound o.after ≡ true
  pub book : BookKept o.after
  pub rows : RowsMove (is_close_of_day e) t o
  -- GGFs that were found
  pub found : Found t o.after
  -- no order of a defaulted member rests, the book is not crossed, and its numbers rise
  pub marks : NoneDefaulted t → NoneDefaulted o.after
  pub uncrossed : Uncrossed (orders t) → Uncrossed (orders o.after)
  pub rising : RisingNumbers (orders t) → RisingNumbers (orders o.after)
  -- what demand 3 asks
  pub does : (h : Header) (d : ℕ) → Runs h d t → Does h d (day_after_event (calendar_of h) d (Some e)) t o

close_cascades : (t : Tables) → Undamaged t → (n : ℕ) → Cascades t (close_booked t n)
unfolding close_booked first_lines from
close_cascades t u n = record { printed = refl; run = close_place t u n lots_run_place (omega arith) (λ q. omega arith) (omega arith); within = close_rows t (sound_of u) n }

today : (t : Tables) → Undamaged t → in_span (calendar t) (day t) ≡ true
unfolding day_sound
today t u = and_left (in_span (calendar t) (day t)) (business_day (calendar t) (day t)) u.head.day_sound_holds

pub kind_keeps : (e : Event) (t : Tables) (legs : List Leg) → Undamaged t → event_sound (members t) e legs ≡ true → NoCause t e legs → Keeps e t (kind_booked t e legs)
kind_keeps e t legs u q n = go e q n
  where
    s : runs.Sound t
    s = sound_of u

    book : BookKept t
    book = record { sound = u.book_sound_holds; few = u.head.orders≤ }

    head : head_sound t ≡ true
    head = u.head_sound_holds

    long : head_length ≤ length t.head
    long = u.long.head

    prices : prices_sound t ≡ true
    prices = u.prices_sound_holds

    wide : prices_length ≤ length t.prices
    wide = u.long.prices

    go : (e : Event) → event_sound (members t) e legs ≡ true → NoCause t e legs → Keeps e t (kind_booked t e legs)
    go (Submit e) q n =
        let f = submission (members t) e legs q in
        record {
          fits = submit_lengths t u e f n;
          head = submit_head t head long e f.time≤ f.member< n;
          prices = submit_prices t head long prices wide (orders_priced t u.book_sound_holds) e f.time≤ f.member< f.contract< n;
          book = submit_book t s book e f (today t u) n.1.1.1.1.1.1.1.0;
          rows = submit_posts t s e f.contract< f.member< u.book_sound_holds;
          found = submit_found t u e;
          marks = λ a. submit_marks t u a e f.member< n.1.0;
          uncrossed = submit_uncrossed t u e;
          rising = submit_rising t u e;
          does = λ h d r. submit_does h d t r s e (not-false _ n.1.1.0) f.contract< f.member<;
        }
    go (Cancel e) q n =
        let time≤ = cancel_time (members t) e legs q in
        let others : Order → Bool = λ o. not (is_cancelled e o) in
        record {
          fits = cancel_lengths t u e.time others;
          head = cancel_head t head long e.time others time≤;
          prices = cancel_prices t head long prices e.time others time≤;
          book = cancel_book t s book e.time others;
          rows = cancel_posts t s e.time others;
          found = cancel_found t u e.time others;
          marks = λ a. cancel_marks t u a e.time others;
          uncrossed = remain_uncrossed (cancel_remain t u e.time others);
          rising = remain_rising (cancel_remain t u e.time others);
          does = λ h d r. cancel_does h d t r s e.time others;
        }
    go (DayLimits e) q n =
        let f = new_day_limits (members t) e legs q in
        record {
          fits = limits_lengths t u _ (simp length-set);
          head = limits_head t head long _;
          prices = limits_prices t head long prices wide e f.contract< f.low≥ f.ordered f.high≤;
          book = limits_book t s book _;
          rows = limits_posts t s _;
          found = limits_found t u e;
          marks = λ a. limits_marks t u a _;
          uncrossed = remain_uncrossed (limits_remain t u _);
          rising = remain_rising (limits_remain t u _);
          does = λ h d r. limits_does h d t r s _;
        }
    go (Proposal i) q n =
        let f = proposal (members t) i legs q in
        record {
          fits = proposal_lengths t u legs f.few;
          head = proposal_head t head long legs n;
          prices = proposal_prices t head long prices legs;
          book = proposal_book t s book legs;
          rows = proposal_posts t s legs (all_every leg_sound legs f.each);
          found = proposal_found t u legs;
          marks = λ a. proposal_marks t u a legs;
          uncrossed = remain_uncrossed (proposal_remain t u legs);
          rising = remain_rising (proposal_remain t u legs);
          does = λ h d r. proposal_does h d t r s legs (not-false _ n.0);
        }
    go (Default m) q n =
        let member< = default_member (members t) m legs q in
        record {
          fits = default_lengths t u m;
          head = default_head t head long m member<;
          prices = default_prices t head long prices m member<;
          book = default_book t s book m;
          rows = default_posts t s m;
          found = default_found t u m;
          marks = λ a. default_marks t u a m;
          uncrossed = remain_uncrossed (default_remain t u m);
          rising = remain_rising (default_remain t u m);
          does = λ h d r. default_does h d t r s m;
        }
    go (CloseOut e) q n =
        let contract< = close_out_contract (members t) e legs q in
        record {
          fits = close_out_lengths t u e;
          head = close_out_head t head long e n;
          prices = close_out_prices t head long prices e;
          book = close_out_book t s book e;
          rows = close_out_posts t s e contract< prices;
          found = close_out_found t u e;
          marks = λ a. close_out_marks t u a e;
          uncrossed = remain_uncrossed (close_out_remain t u e);
          rising = remain_rising (close_out_remain t u e);
          does = λ h d r. close_out_does h d t r s e (not-false _ n.0) contract< n.1.1.1.0;
        }
    go (CloseOfDay i) q n = record {
      fits = close_lengths t u i;
      head = close_head t head long i n;
      prices = close_prices t head long prices wide (orders_priced t u.book_sound_holds) i;
      book = close_book t s book i;
      rows = close_cascades t u i;
      found = close_found t u i;
      marks = λ a. close_marks t u a i;
      uncrossed = remain_uncrossed (close_remain t u i);
      rising = remain_rising (close_remain t u i);
      does = close_shows t s i (not-false _ n.1.0);
    }
