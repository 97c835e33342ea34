-- What holds after every run: a ledger was made, then any records were applied, sound or not. A run has what each call was given, answered
-- and left. What the calls promise is a parameter: engine and host put in the very promises of their functions.
use Rattle.std.specs.Prelude.{ℕ, ◌≡◌, cond, List, [], ◌∷◌, ◌++◌, map, eqb, ℤ}
use Rattle.rules.specs.Answers.{Reply, reply_of}
use Rattle.rules.specs.Header.{Header, header_of, calendar_of}
use Rattle.rules.specs.Ledger.{Tables, Line, with_lines, first_lines}
use Rattle.rules.specs.Records.{read_of}
use Rattle.rules.specs.Refusals.{make_spec, apply_spec}
use Rattle.rules.specs.Accounts.{Call, day_after_event}

-- One record applied: the bytes and the line table that the call was given, what it answered and what it left.
pub record Applied (A : Type 0) : Type 0 where
  pub call : Call
  pub answer : A
  pub left : Tables

abbrev pub calls : {A : Type 0} → List (Applied A) → List Call
calls run = map (λ a. a.call) run

-- The tables that the last call left.
unfoldable pub standing : {A : Type 0} → Tables → List (Applied A) → Tables
standing t [] = t
standing t (a ∷ rest) = standing a.left rest

-- Each call kept the promise, on the tables that the call before left.
unfoldable pub Kept : {A : Type 0} → (Tables → List ℕ → A → Tables → Type 0) → Tables → List (Applied A) → Type 0
Kept Promise t [] = Unit {0}
Kept Promise t (a ∷ rest) = Promise (with_lines a.call.lines t) a.call.bytes a.answer a.left × Kept Promise a.left rest

-- ---- what is seen of the answers alone: of each its reply
-- The lines of an accepted record; a refused one has none.
abbrev pub lines_of_reply : Reply → List ℤ → List Line
lines_of_reply r l = cond (eqb r.number 0) (first_lines r.detail l) []

module _ {A : Type 0} (reply : A → Reply) where
  -- All that the other bookkeeper sees: the lines of each accepted record, in printed order.
  unfoldable pub printed : List (Applied A) → List Line
  printed [] = []
  printed (a ∷ rest) = lines_of_reply (reply a.answer) a.left.lines ++ printed rest

  -- The list's day: each accepted close of day moves it to the next day.
  unfoldable pub day_of : Header → ℕ → List (Applied A) → ℕ
  day_of h d [] = d
  day_of h d (a ∷ rest) = day_of h (cond (eqb (reply a.answer).number 0) (day_after_event (calendar_of h) d (read_of h.members a.call.bytes)) d) rest

  -- The records that were accepted.
  unfoldable pub accepted_of : List (Applied A) → List Call
  accepted_of [] = []
  accepted_of (a ∷ rest) = cond (eqb (reply a.answer).number 0) (a.call ∷ accepted_of rest) (accepted_of rest)

  -- A promise to answer and to leave what the rules say.
  abbrev pub MakesByRules : (Tables → List ℕ → A → Tables → Type 0) → Type 0
  MakesByRules Promise = (t : Tables) (header : List ℕ) (a : A) (u : Tables) → Promise t header a u → ((reply a).number ≡ (reply_of (make_spec t header).answer).number) × (u ≡ (make_spec t header).after)

  abbrev pub AppliesByRules : (Tables → List ℕ → A → Tables → Type 0) → Type 0
  AppliesByRules Promise = (t : Tables) (bytes : List ℕ) (a : A) (u : Tables) → Promise t bytes a u → (reply a ≡ reply_of (apply_spec t bytes).answer) × (u ≡ (apply_spec t bytes).after)

  -- P of the header, the ledger, the printed lines and the list's day, after every run: the ledger was made in any lent tables t.
  abbrev pub AfterEveryRun : (Make Apply : Tables → List ℕ → A → Tables → Type 0) → (Header → Tables → List Line → ℕ → Type 0) → Type 0
  AfterEveryRun Make Apply P =
      (header : List ℕ) (t made : Tables) (answer : A) (run : List (Applied A))
      → Make t header answer made
      → (reply answer).number ≡ 0
      → Kept Apply made run
      → let h = header_of header in
      P h (standing made run) (printed run) (day_of h h.start_day run)
