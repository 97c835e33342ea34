-- What one call has to show, and what follows where a cause refuses it or the tables are not damaged.
use mathlib.Core.Path.{◌≡◌}
use mathlib.Core.Bool.{false, cond}
use mathlib.Core.List.{List, ◌++◌, append-nil}
use Prim.Native.Nat.{ℕ, ◌≤◌, ◌<◌}
use native.Mathlib.Omega.{arith}
use lib.IntN.{◌+ℤ◌}
use Rattle.std.specs.Prelude.{Result}
use Rattle.arith.specs.Lists.{All}
use Rattle.rules.specs.Answers.{Outcome}
use Rattle.rules.specs.ContractTerms.{has_cascaded}
use Rattle.rules.specs.Header.{Header, calendar_of}
use Rattle.rules.specs.Ranges.{most_members}
use Rattle.rules.specs.Ledger.{Tables, Line, orders, line_lots, line_value, booked, time_place}
use Rattle.rules.specs.Accounts.{Column, lots, value, row, amount, is_accepted, lines_of}
use Rattle.accounts.proofs.Lines.{Fits, row_total}
use Rattle.accounts.proofs.Heads.{SameHeader}
use Rattle.accounts.proofs.Rows.{posted_row}
use Rattle.accounts.proofs.Written.{lines_printed}
use Rattle.accounts.proofs.Holds.{Rows, Holds, Fair, holds_same, holds_posted}
use Rattle.accounts.proofs.Runs.{InOpen, Runs, Sound, booked_runs}
use Rattle.rules.specs.declared.refusal.Refusal.{Refusal}

-- ---- a call
abbrev pub rows_of : Tables → Rows
rows_of t x = row x t

-- an outcome of a call on tables t, on the list's day d; if it is accepted, the list's day is then e
pub record Does (h : Header) (d e : ℕ) (t : Tables) (o : Outcome Tables) : Type 0 where
  pub runs : Runs h (cond (is_accepted o.answer) e d) o.after
  pub holds : (log : List Line) → Holds h (rows_of t) log (has_cascaded (calendar_of h) d)
      → Holds h (rows_of o.after) (log ++ lines_of o.answer o.after.lines) (has_cascaded (calendar_of h) (cond (is_accepted o.answer) e d))

-- what is refused leaves all as it was
pub refused_does : (h : Header) (d e : ℕ) (t : Tables) (a : Result ℕ Refusal) → is_accepted a ≡ false → Runs h d t → Does h d e t (record { answer = a; after = t })
refused_does h d e t a q r = record { runs = rw q r; holds = λ log p. rw (q, append-nil log) p }

-- ---- a record with lines
pub booked_row : (n : ℕ) (ls : List Line) (t t' : Tables) → Sound t → n ≤ most_members → All (Fits n) ls → t'.lots ≡ t.lots → t'.value ≡ t.value
    → (x : Column) (c m : ℕ) → m < most_members → row x (booked ls t').after c m ≡ row x t c m +ℤ row_total (amount x) c m ls
unfolding booked
booked_row n ls t t' s q f e v lots c m b = rw e (posted_row n line_lots ls t.lots c m s.lots_long f q b)
booked_row n ls t t' s q f e v value c m b = rw v (posted_row n line_value ls t.value c m s.value_long f q b)

-- t': the tables t with all but the lines booked
pub booked_does : (h : Header) (d : ℕ) (ls : List Line) (t t' : Tables) → Runs h d t → Sound t → SameHeader time_place t.head t'.head → All (InOpen h d) (orders t')
    → t'.lots ≡ t.lots → t'.value ≡ t.value → Fair h (has_cascaded (calendar_of h) d) ls → Does h d d t (booked ls t')
unfolding booked
booked_does h d ls t t' r s a o e v f =
    let few : h.members ≤ most_members = rw r.size at s.few_members in
    record {
      runs = booked_runs h d ls t t' r s a o;
      holds = λ log p. rw (lines_printed ls t'.lines)
          (holds_same h (λ x c m. row x t c m +ℤ row_total (amount x) c m ls) (rows_of (booked ls t').after) (log ++ ls) (has_cascaded (calendar_of h) d)
          (λ x c m l b. booked_row h.members ls t t' s few f.fits e v x c m (omega arith))
          (holds_posted h (rows_of t) log ls (has_cascaded (calendar_of h) d) f p));
    }
