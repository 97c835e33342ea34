-- Demand 3, proved: for every sound header and every list of calls, from the fresh ledger.
use mathlib.Core.Path.{◌≡◌, refl, ap, ◌∙◌}
use mathlib.Core.Bool.{not, cond}
use mathlib.Core.List.{List, [], ◌∷◌, ◌++◌, append-nil, append_assoc}
use Prim.Native.Nat.{ℕ}
use lib.Dec.{T}
use lib.IntN.{ℤ, pos}
use Rattle.arith.specs.Ints.{when}
use Rattle.arith.proofs.Sums.{when_zero, sum_zero, sum_ext}
use Rattle.arith.proofs.Tests.{passed, failed}
use Rattle.rules.specs.Ranges.{contract_count}
use Rattle.rules.specs.ContractTerms.{holds_hour, has_cascaded}
use Rattle.rules.specs.Header.{Header, calendar_of, header_of, begins_with_header}
use Rattle.rules.specs.Ledger.{Tables, Line, with_lines, ledger_short, fresh}
use Rattle.rules.specs.Records.{read_of}
use Rattle.rules.specs.Refusals.{make_spec}
use Rattle.rules.specs.Accounts.{Column, lots, value, row, Call, call_spec, after, is_accepted, lines_of, log, engine_account, entered, other_account, day_after_event, lists_day, Demand3}
use Rattle.rules.proofs.SoundTables.{long_enough}
use Rattle.rules.proofs.SoundHeaders.{header_gives, begun}
use Rattle.accounts.specs.EveryList.{OrdersRestInOpen}
use Rattle.accounts.proofs.Holds.{Holds, holds_same}
use Rattle.accounts.proofs.Runs.{Runs, orders_same}
use Rattle.accounts.proofs.Calls.{rows_of}
use Rattle.accounts.proofs.Events.{apply_shows}
use Rattle.accounts.proofs.Fresh.{fresh_zero, fresh_runs}

-- ---- from one call to every list
-- a call's own line table is no part of the ledger
pub lines_lent : (h : Header) (d : ℕ) (t : Tables) (l : List ℤ) → Runs h d t → Runs h d (with_lines l t)
lines_lent h d t l r = record { year = r.year; size = r.size; days = r.days; today = r.today; resting = rw (orders_same t (with_lines l t) refl refl) r.resting }

same_rows : (t : Tables) (l : List ℤ) (x : Column) (c m : ℕ) → row x (with_lines l t) c m ≡ row x t c m
same_rows t l lots c m = refl
same_rows t l value c m = refl

-- what is known after a list, from tables t on day d with a log of lines so far
pub record Known (h : Header) (d : ℕ) (t : Tables) (ls : List Line) : Type 0 where
  pub runs : Runs h d t
  pub holds : Holds h (rows_of t) ls (has_cascaded (calendar_of h) d)

pub known_after : (h : Header) (calls : List Call) (d : ℕ) (t : Tables) (ls : List Line) → Known h d t ls → Known h (lists_day h d t calls) (after t calls) (ls ++ log t calls)
unfolding after log lists_day
known_after h [] d t ls a = rw (append-nil ls) a
known_after h (call ∷ calls) d t ls a =
    let u = with_lines call.lines t in
    let o = call_spec t call in
    let shows = apply_shows h d u call.bytes (lines_lent h d t call.lines a.runs) in
    let next = cond (is_accepted o.answer) (day_after_event (calendar_of h) d (read_of h.members call.bytes)) d in
    rw (← (append_assoc ls (lines_of o.answer o.after.lines) (log o.after calls)))
    (known_after h calls next o.after (ls ++ lines_of o.answer o.after.lines) (record {
      runs = shows.runs;
      holds = shows.holds ls (holds_same h (rows_of t) (rows_of u) ls (has_cascaded (calendar_of h) d) (λ x c m _ _. same_rows t call.lines x c m) a.holds);
    }))

-- ---- the fresh ledger
module _ (header : List ℕ) (t : Tables) (sound : T (begins_with_header header)) (long : T (not (ledger_short t))) where
  abbrev h : Header
  h = header_of header

  pub made : (make_spec t header).after ≡ fresh h t
  unfolding make_spec
  made = rw (failed (ledger_short t) long, passed (begins_with_header header) sound)

  known_fresh : Known h h.start_day (fresh h t) []
  unfolding engine_account other_account entered
  known_fresh =
      let f = header_gives h (begun header (passed _ sound)) in
      let l = long_enough t (failed (ledger_short t) long) in
      let zero = fresh_zero h t f l.lots l.value in
      record {
        runs = fresh_runs h t f l.head;
        holds = record {
          same = λ x m hour b d. sum_ext contract_count _ (λ c. pos 0) (λ c k. ap (when (holds_hour (calendar_of h) c hour)) (zero x c m k b) ∙ when_zero (holds_hour (calendar_of h) c hour))
              ∙ sum_zero contract_count;
          zero = λ x hour d. sum_zero h.members;
          empty = λ x c m k b e. zero x c m k b;
        };
      }

  -- what is known after any list
  pub known : (calls : List Call) → Known h (lists_day h h.start_day (make_spec t header).after calls) (after (make_spec t header).after calls) (log (make_spec t header).after calls)
  known calls = known_after h calls h.start_day (make_spec t header).after [] (rw made known_fresh)

-- ---- the theorem
pub two_bookkeepers : Demand3
two_bookkeepers header t calls sound long =
    let h = header_of header in
    let a = (known header t sound long calls).holds in
    record {
      same = a.same;
      engine_zero = λ x hour d. sum_ext h.members _ _ (λ m b. a.same x m hour b d) ∙ a.zero x hour d;
      other_zero = a.zero;
      nothing_left = λ x c m l b e. a.empty x c m l b (passed _ e);
    }

pub orders_rest_in_open : OrdersRestInOpen
orders_rest_in_open header t calls sound long = (known header t sound long calls).runs.resting
