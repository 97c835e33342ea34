-- Document 01, "Journal program": the whole output for the bytes of a journal.
use Rattle.std.specs.Prelude.{ℕ, zero, suc, ◌+◌, ◌-◌, Bool, cond, eqb, length, take, drop, Result, Err}
use mathlib.Core.List.{List, [], ◌∷◌, ◌++◌, flat_map}
use Rattle.rules.specs.declared.refusal.Refusal.TheVariants.{RecordUnsound}
use Rattle.rules.specs.declared.event.Front.{Front}
use Rattle.rules.specs.declared.event.Front.TheVariants.{Whole, Cut, UnknownKind}
use Rattle.rules.specs.Answers.{Outcome, reply_of}
use Rattle.rules.specs.Header.{header_length}
use Rattle.rules.specs.Ledger.{Tables, Line, first_year, day, members, lots_run, zero_tables}
use Rattle.rules.specs.Records.{front_of}
use Rattle.rules.specs.Refusals.{apply_spec, make_spec}
use Rattle.rules.specs.Accounts.{is_accepted, lines_of}
use Rattle.rules.specs.Text.{decimal, signed_decimal, line_text}
use Rattle.rules.specs.declared.refusal.Refusal.{Refusal}

-- ---- the lines
abbrev pub letter_h : ℕ
letter_h = 72

abbrev pub letter_d : ℕ
letter_d = 68

abbrev pub letter_r : ℕ
letter_r = 82

abbrev pub letter_e : ℕ
letter_e = 69

-- H: first year, day, members.
unfoldable pub head_text : Tables → List ℕ
head_text t = line_text letter_h (decimal (first_year t) ∷ decimal (day t) ∷ decimal (members t) ∷ [])

-- D: member, contract, lots, kuruş.
unfoldable pub deal_text : Line → List ℕ
deal_text l = line_text letter_d (decimal l.member ∷ decimal l.contract ∷ signed_decimal l.lots ∷ decimal l.price ∷ [])

-- R: record counted from 1, number. The header is record 0.
unfoldable pub refusal_text : ℕ → ℕ → List ℕ
refusal_text n number = line_text letter_r (decimal n ∷ decimal number ∷ [])

-- E: accepted, refused, lots run. So many records were counted, and so many of them accepted.
unfoldable pub end_text : ℕ → ℕ → Tables → List ℕ
end_text counted accepted t = line_text letter_e (decimal accepted ∷ decimal (counted - accepted) ∷ decimal (lots_run t) ∷ [])

-- ---- one record
-- A record's bytes: as many as its kind says. One that is cut has all that are left; of an unknown kind nothing but the kind is known.
unfoldable pub length_by_front : ℕ → Front → ℕ
length_by_front left (Whole n) = n
length_by_front left Cut = left
length_by_front left UnknownKind = 1

abbrev pub next_length : List ℕ → ℕ
next_length s = length_by_front (length s) (front_of s)

-- An accepted record prints its lines, and nothing if it has none; a refused one prints R.
unfoldable pub answer_text : ℕ → Outcome Tables → List ℕ
answer_text n o = cond (is_accepted o.answer) (flat_map deal_text (lines_of o.answer o.after.lines)) (refusal_text n (reply_of o.answer).number)

-- After number 3 it stops reading.
abbrev pub stops : Result ℕ Refusal → Bool
stops a = eqb (reply_of a).number (reply_of (Err RecordUnsound)).number

abbrev pub accepted_by : Result ℕ Refusal → ℕ
accepted_by a = cond (is_accepted a) 1 0

-- ---- the records one after the other, and E
unfoldable pub records_within : ℕ → ℕ → ℕ → Tables → List ℕ → List ℕ
records_within zero counted accepted t s = end_text counted accepted t
records_within (suc fuel) counted accepted t s =
    let n = next_length s in
    let o = apply_spec t (take n s) in
    let after = accepted + accepted_by o.answer in
    cond (eqb (length s) 0) (end_text counted accepted t)
    (answer_text (counted + 1) o
    ++ cond (stops o.answer) (end_text (counted + 1) after o.after) (records_within fuel (counted + 1) after o.after (drop n s)))

-- What is printed for these bytes where so many records were counted and so many accepted. No record is without a byte.
unfoldable pub records_text : ℕ → ℕ → Tables → List ℕ → List ℕ
records_text counted accepted t s = records_within (length s) counted accepted t s

-- A journal run on these tables. After 2 it prints only R 0 2.
unfoldable pub journal_text_on : Tables → List ℕ → List ℕ
journal_text_on t s =
    let o = make_spec t s in
    cond (is_accepted o.answer) (head_text o.after ++ records_text 0 0 o.after (drop (header_length s) s)) (refusal_text 0 (reply_of o.answer).number)

-- The program's own tables are zero.
abbrev pub journal_text : List ℕ → List ℕ
journal_text s = journal_text_on zero_tables s
