-- Lengths: no call changes the length of a table, and an accepted record has at most 200 lines.
use Rattle.std.specs.Prelude.{ℕ, ◌≤◌, ◌≡◌, true, List, length}
use Rattle.rules.specs.Answers.{Outcome, reply_of}
use Rattle.rules.specs.Ledger.{Tables}
use Rattle.rules.specs.Refusals.{apply_spec, make_spec}
use Rattle.rules.specs.Accounts.{is_accepted}

pub record SameLengths (t u : Tables) : Type 0 where
  pub head : length u.head ≡ length t.head
  pub prices : length u.prices ≡ length t.prices
  pub lots : length u.lots ≡ length t.lots
  pub value : length u.value ≡ length t.value
  pub book : length u.book ≡ length t.book
  pub lines : length u.lines ≡ length t.lines

abbrev pub LengthsStay : Type 0
LengthsStay = (t : Tables) (bytes : List ℕ) → SameLengths t (apply_spec t bytes).after

-- Making a ledger changes the length of no table.
abbrev pub MakingKeepsLengths : Type 0
MakingKeepsLengths = (t : Tables) (bytes : List ℕ) → SameLengths t (make_spec t bytes).after

abbrev pub FewLines : Outcome Tables → Type 0
FewLines o = is_accepted o.answer ≡ true → (reply_of o.answer).detail ≤ 200

abbrev pub AtMost200Lines : Type 0
AtMost200Lines = (t : Tables) (bytes : List ℕ) → FewLines (apply_spec t bytes)
