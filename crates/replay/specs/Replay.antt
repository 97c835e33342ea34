-- What recovery from a journal rests on: the same records lead to the same answers, the same lines and the same ledger, surplus apart.
use Rattle.std.specs.Prelude.{ℕ, ◌≡◌, not, List, [], ◌∷◌, T, ltb, length, Result}
use Rattle.rules.specs.Answers.{Reply}
use Rattle.rules.specs.Header.{header_of, begins_with_header}
use Rattle.rules.specs.Ledger.{Tables, Line, members, holiday_count, lines_length, ledger_short}
use Rattle.rules.specs.Refusals.{make_spec, apply_spec}
use Rattle.rules.specs.Accounts.{Call, call_spec, after, lines_of}
use Rattle.accounts.specs.EveryRun.{Applied, calls, standing, Kept, lines_of_reply}
use Rattle.replay.specs.Surplus.{SameButSurplus, SurplusUntouched, LinesUntouched, BookUntouched}
use Rattle.rules.specs.declared.refusal.Refusal.{Refusal}

-- The same record; the line tables may differ in what they hold and in length, if both are long enough or both too short.
abbrev pub SameRecord : Call → Call → Type 0
SameRecord call other = (call.bytes ≡ other.bytes) × (ltb (length call.lines) lines_length ≡ ltb (length other.lines) lines_length)

abbrev pub SameRecords : List Call → List Call → Type 0
SameRecords [] [] = Unit {0}
SameRecords [] (other ∷ others) = ⊥
SameRecords (call ∷ calls) [] = ⊥
SameRecords (call ∷ calls) (other ∷ others) = SameRecord call other × SameRecords calls others

-- Each call's answer, with its lines.
unfoldable pub answered : Tables → List Call → List (Result ℕ Refusal × List Line)
answered t [] = []
answered t (call ∷ calls) = let o = call_spec t call in (o.answer, lines_of o.answer o.after.lines) ∷ answered o.after calls

pub record Replayed (t u : Tables) (calls others : List Call) : Type 0 where
  pub answers : answered t calls ≡ answered u others
  pub ledger : SameButSurplus (after t calls) (after u others)

-- Ledgers that agree but for surplus still do after the same records, and these are answered alike.
abbrev pub ReplaysAlike : Type 0
ReplaysAlike = (t u : Tables) (calls others : List Call) → SameButSurplus t u → SameRecords calls others → Replayed t u calls others

-- Made from the same header, in any lent tables of sufficient length, whatever they hold.
abbrev pub MakesAlike : Type 0
MakesAlike =
    (header : List ℕ) (t u : Tables)
    → T (begins_with_header header)
    → T (not (ledger_short t))
    → T (not (ledger_short u))
    → SameButSurplus (make_spec t header).after (make_spec u header).after

-- So the stored header and records lead to the ledger that was lost.
abbrev pub Recovers : Type 0
Recovers =
    (header : List ℕ) (t u : Tables) (calls others : List Call)
    → T (begins_with_header header)
    → T (not (ledger_short t))
    → T (not (ledger_short u))
    → SameRecords calls others
    → Replayed (make_spec t header).after (make_spec u header).after calls others

-- Whatever calls follow, surplus that is no place for an order stays; t are any tables, so also those that a list leads to.
abbrev pub SurplusStays : Type 0
SurplusStays = (t : Tables) (calls : List Call) → SurplusUntouched (members t) (holiday_count t) t (after t calls)

-- Making a ledger leaves what is surplus in it, and the whole book.
abbrev pub MakingLeavesSurplus : Type 0
MakingLeavesSurplus =
    (header : List ℕ) (t : Tables)
    → T (begins_with_header header)
    → T (not (ledger_short t))
    → let h = header_of header in
    let made = (make_spec t header).after in
    SurplusUntouched h.members (length h.holidays) t made × (made.book ≡ t.book)

-- A call leaves the line table past its lines.
abbrev pub LinesStay : Type 0
LinesStay = (t : Tables) (bytes : List ℕ) → LinesUntouched t (apply_spec t bytes)

-- And the book past the orders that it leaves: a surplus place of the book is written only where an order comes to stand.
abbrev pub BookStays : Type 0
BookStays = (t : Tables) (bytes : List ℕ) → BookUntouched t (apply_spec t bytes)

-- ---- the same of runs, whose calls kept their promises
-- Each call's reply, with its lines.
unfoldable pub shown : {A : Type 0} → (A → Reply) → List (Applied A) → List (Reply × List Line)
shown reply [] = []
shown reply (a ∷ rest) = (reply a.answer, lines_of_reply (reply a.answer) a.left.lines) ∷ shown reply rest

-- From tables t and u the same was replied, with the same lines, and the ledgers agree but for surplus.
pub record SameRuns {A : Type 0} (reply : A → Reply) (t u : Tables) (run other : List (Applied A)) : Type 0 where
  pub replies : shown reply run ≡ shown reply other
  pub ledger : SameButSurplus (standing t run) (standing u other)

module _ {A : Type 0} (reply : A → Reply) (Make Apply : Tables → List ℕ → A → Tables → Type 0) where
  abbrev pub RunsAlike : Type 0
  RunsAlike =
      (t u : Tables) (run other : List (Applied A))
      → SameButSurplus t u
      → Kept Apply t run
      → Kept Apply u other
      → SameRecords (calls run) (calls other)
      → SameRuns reply t u run other

  -- Both ledgers were made from the same header.
  abbrev pub RunsRecover : Type 0
  RunsRecover =
      (header : List ℕ) (t made : Tables) (answer : A) (run : List (Applied A)) (u remade : Tables) (again : A) (other : List (Applied A))
      → Make t header answer made
      → (reply answer).number ≡ 0
      → Make u header again remade
      → (reply again).number ≡ 0
      → Kept Apply made run
      → Kept Apply remade other
      → SameRecords (calls run) (calls other)
      → SameRuns reply made remade run other

  abbrev pub RunsLeaveSurplus : Type 0
  RunsLeaveSurplus = (t : Tables) (run : List (Applied A)) → Kept Apply t run → SurplusUntouched (members t) (holiday_count t) t (standing t run)
