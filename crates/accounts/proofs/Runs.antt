-- What holds of the lent tables all along a list: the header's fields, the list's day, and where orders rest.
use mathlib.Core.Path.{◌≡◌, refl, ap, ◌∙◌}
use mathlib.Core.Bool.{true, cond}
use mathlib.Core.List.{List}
use Prim.Native.Nat.{ℕ, ◌+◌, ◌≤◌, ◌<◌}
use native.Mathlib.Omega.{arith}
use lib.Dec.{ltb}
use lib.ListN.{length, set, take, drop, replicate}
use lib.Seq.{get_or-set_other}
use Rattle.arith.specs.Lists.{All}
use Rattle.arith.proofs.Alls.{all_map}
use Rattle.arith.proofs.Tests.{by_bool}
use Rattle.rules.specs.Ledger.{head_length, rows_length, first_year_place, members_place, holiday_count_place, day_place, time_place, holidays_from, submits_from, lots_run_place, order_count_place}
use Rattle.rules.specs.Ranges.{contract_count, most_members, most_holidays}
use Rattle.rules.specs.declared.order.Order.{Order}
use Rattle.rules.specs.ContractTerms.{open_on}
use Rattle.rules.specs.Header.{Header, calendar_of}
use Rattle.rules.specs.Ledger.{Tables, Line, first_year, members, holiday_count, holidays, day, time, calendar, order_count, with_head, orders, without_submits, timed, lots_run, line_run, booked}
use Rattle.rules.specs.Refusals.{head_sound, book_sound}
use Rattle.rules.proofs.SoundTables.{Long, SoundOrder, head_gives, book_gives, Undamaged}
use Rattle.accounts.proofs.Heads.{SameHeader, field, changing, same_header, then_same, set_other, over_other, same_holidays}

-- an order of a contract that is open on day d
abbrev pub InOpen : Header → ℕ → Order → Type 0
InOpen h d o = open_on (calendar_of h) d o.contract ≡ true

pub record Runs (h : Header) (d : ℕ) (t : Tables) : Type 0 where
  pub year : first_year t ≡ h.first_year
  pub size : members t ≡ h.members
  pub days : holidays t ≡ h.holidays
  pub today : day t ≡ d
  pub resting : All (InOpen h d) (orders t)

pub runs_calendar : {h : Header} {d : ℕ} {t : Tables} → Runs h d t → calendar t ≡ calendar_of h
runs_calendar r = λ s. record { first_year = r.year s; holidays = r.days s }

-- ---- tables with the same header
-- orders are read from their count and the book alone
pub orders_same : (t t' : Tables) → order_count t' ≡ order_count t → t'.book ≡ t.book → orders t' ≡ orders t
unfolding orders
orders_same t t' n b = rw (n, b)

-- what a table that is not damaged shows of itself
pub record Sound (t : Tables) : Type 0 where
  pub head_long : head_length ≤ length t.head
  pub lots_long : rows_length ≤ length t.lots
  pub value_long : rows_length ≤ length t.value
  pub few_holidays : holiday_count t ≤ most_holidays
  pub few_members : members t ≤ most_members
  pub placed : All (λ o. (o.contract < contract_count) × (o.member < members t)) (orders t)

pub sound_parts : (t : Tables) → Long t → head_sound t ≡ true → book_sound t ≡ true → Sound t
sound_parts t long a b =
    let head = head_gives t a in
    record {
      head_long = long.head;
      lots_long = long.lots;
      value_long = long.value;
      few_holidays = head.holidays≤;
      few_members = head.members_range.to;
      placed = all_map (SoundOrder t) _ (orders t) (λ o s. (s.contract<, s.member<)) (book_gives t b).each;
    }

pub sound_of : {t : Tables} → Undamaged t → Sound t
sound_of {t} u = sound_parts t u.long u.head_sound_holds u.book_sound_holds

-- an accepted record's time leaves the header
pub timed_same : (n : ℕ) (t : Tables) → Sound t → SameHeader time_place t.head (timed n t).head
unfolding timed without_submits
timed_same n t s =
    by_bool (λ b. SameHeader time_place t.head (cond b (with_head (set (without_submits t).head time_place n) t) t).head) (ltb (time t) n)
    (λ _. then_same (over_other time_place t.head (replicate (members t) 0) submits_from (omega arith) (omega arith) (omega (arith, s.head_long)))
    (set_other time_place (without_submits t).head time_place n (omega arith) (changing (omega arith) (omega arith))))
    (λ _. same_header time_place t.head)

-- the tables after a record whose head kept the header, with these orders; with f = 3 the day is another one
pub runs_with : (f : ℕ) (h : Header) (d d' : ℕ) (t t' : Tables) → day_place ≤ f → Runs h d t → Sound t → SameHeader f t.head t'.head
    → day t' ≡ d' → All (InOpen h d') (orders t') → Runs h d' t'
runs_with f h d d' t t' q r s a today o = record {
  year = a.places first_year_place (field (omega arith)) ∙ r.year;
  size = a.places members_place (field (omega arith)) ∙ r.size;
  days = ap (λ n. take n (drop holidays_from t'.head)) (a.places holiday_count_place (field (omega arith))) ∙ same_holidays f t.head t'.head (holiday_count t) a s.head_long s.few_holidays ∙ r.days;
  today = today;
  resting = o;
}

-- a record that prints lines ls: the head before the booking kept the header and the day, and it has these orders
pub booked_runs : (h : Header) (d : ℕ) (ls : List Line) (t t' : Tables) → Runs h d t → Sound t → SameHeader time_place t.head t'.head → All (InOpen h d) (orders t')
    → Runs h d (booked ls t').after
unfolding booked
booked_runs h d ls t t' r s a o =
    let b = then_same a (set_other time_place t'.head lots_run_place (lots_run t' + line_run ls) (omega arith) (changing (omega arith) (omega arith))) in
    runs_with time_place h d d t (booked ls t').after (omega arith) r s b (b.places day_place (field (omega arith)) ∙ r.today)
    (rw (orders_same t' (booked ls t').after (get_or-set_other t'.head lots_run_place order_count_place (lots_run t' + line_run ls) 0 (λ e. omega arith)) refl) o)
