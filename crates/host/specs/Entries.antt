-- The promises of `ledger_make` and `ledger_apply`, and what holds of every call of them and after every run of such calls.
use Rattle.std.specs.Prelude.{ℕ, ◌≡◌, true, false, List, length, ℤ, Result}
use Rattle.rules.specs.Answers.{Outcome, Reply, reply_of}
use Rattle.rules.specs.Header.{Header, header_of}
use Rattle.rules.specs.Ledger.{Tables, Line, day, lots_run, line_run, orders, resting, with_lines, lines_short}
use Rattle.rules.specs.Refusals.{make_spec, apply_spec}
use Rattle.rules.specs.Accounts.{Call, Agrees, is_accepted}
use Rattle.accounts.specs.Answered.{call_causes, Exact}
use Rattle.accounts.specs.ClosedOut.{NoLotsOfDefaulted}
use Rattle.accounts.specs.Complete.{MatchedInFull, NonePassedOver}
use Rattle.accounts.specs.EveryList.{NotDamaged, RestInOpen, Uncrossed, RisingNumbers, NoneDefaulted, GgfsKept}
use Rattle.accounts.specs.EveryRun.{Applied, calls, standing, Kept, printed, accepted_of, AfterEveryRun}
use Rattle.accounts.specs.Lengths.{SameLengths, FewLines}
use Rattle.accounts.specs.Lines.{LinesSound}
use Rattle.accounts.specs.Refused.{LeavesIfRefused, SameLedger}
use Rattle.accounts.specs.StaysSound.{SoundAfter, SoundButRows}
use Rattle.replay.specs.Surplus.{SurplusUntouched, LinesUntouched, BookUntouched}
use Rattle.replay.specs.Replay.{RunsAlike, RunsRecover, RunsLeaveSurplus}
use Rattle.host.specs.Sent.{sent, damage_number}
use Rattle.rules.specs.declared.refusal.Refusal.{Refusal}

-- ---- the promises
-- On these tables and this header `ledger_make` answered this number and left these tables.
abbrev pub Makes : Tables → List ℕ → ℕ → Tables → Type 0
Makes before header number after = record { number = number; detail = 0; after = after } ≡ sent (make_spec before header)

-- On these tables and these bytes `ledger_apply` answered this number and detail and left these tables.
abbrev pub Applies : Tables → List ℕ → ℕ → ℕ → Tables → Type 0
Applies before bytes number detail after = record { number = number; detail = detail; after = after } ≡ sent (apply_spec before bytes)

-- ---- every call
-- An outcome that a host got as this number and detail, with what it left, has the property Q.
pub record GotAs (Q : Outcome Tables → Type 0) (number detail : ℕ) (after : Tables) : Type 0 where
  pub answer : Result ℕ Refusal
  pub number_is : (reply_of answer).number ≡ number
  pub detail_is : (reply_of answer).detail ≡ detail
  pub holds : Q (record { answer = answer; after = after })

-- What holds of every outcome of a record on tables t.
pub record OfRecord (t : Tables) (bytes : List ℕ) (o : Outcome Tables) : Type 0 where
  pub exact : Exact (call_causes t bytes) o.answer
  pub refused : LeavesIfRefused t o
  pub lengths : SameLengths t o.after
  pub few_lines : FewLines o
  pub lines_sound : LinesSound t o
  pub complete : MatchedInFull t bytes o
  pub none_passed_over : NonePassedOver t bytes o
  pub closed_out_holds : NoLotsOfDefaulted t bytes o
  pub sound : SoundAfter t bytes o
  pub sound_but_rows : SoundButRows t o
  pub lines_untouched : LinesUntouched t o
  pub book_untouched : BookUntouched t o

-- What holds of every outcome of making a ledger in tables t.
pub record OfMaking (t : Tables) (header : List ℕ) (o : Outcome Tables) : Type 0 where
  pub refused : LeavesIfRefused t o
  pub lengths : SameLengths t o.after
  pub surplus : is_accepted o.answer ≡ true → let h = header_of header in SurplusUntouched h.members (length h.holidays) t o.after
  pub book : is_accepted o.answer ≡ true → o.after.book ≡ t.book

abbrev pub EveryRecord : Type 0
EveryRecord = (t : Tables) (bytes : List ℕ) (number detail : ℕ) (u : Tables) → Applies t bytes number detail u → GotAs (OfRecord t bytes) number detail u

abbrev pub EveryMaking : Type 0
EveryMaking = (t : Tables) (header : List ℕ) (number : ℕ) (u : Tables) → Makes t header number u → GotAs (OfMaking t header) number 0 u

-- ---- every run of calls
abbrev pub MakesReply : Tables → List ℕ → Reply → Tables → Type 0
MakesReply before header reply after = Makes before header reply.number after

abbrev pub AppliesReply : Tables → List ℕ → Reply → Tables → Type 0
AppliesReply before bytes reply after = Applies before bytes reply.number reply.detail after

-- `ledger_make` made a ledger in any lent tables, then `ledger_apply` was given any bytes and any line tables.
abbrev pub AfterEntries : (Header → Tables → List Line → ℕ → Type 0) → Type 0
AfterEntries P = AfterEveryRun (λ reply. reply) MakesReply AppliesReply P

-- Number 1 is answered for a short line table alone.
abbrev pub OneForShortLines : Tables → Type 0
OneForShortLines t =
    (call : Call) (detail : ℕ) (u : Tables) → Applies (with_lines call.lines t) call.bytes 1 detail u → lines_short (with_lines call.lines t) ≡ true

-- `ledger_is_damaged` answers 0 with any line table that is long enough.
abbrev pub AnswersNoDamage : Tables → Type 0
AnswersNoDamage t = (l : List ℤ) → lines_short (with_lines l t) ≡ false → damage_number (with_lines l t) ≡ 0

-- What holds of the header, the ledger, the printed lines and the list's day: demand 3, and the rest of what `accounts` shows of every list.
pub record AfterRun (h : Header) (t : Tables) (ls : List Line) (d : ℕ) : Type 0 where
  pub agrees : Agrees h t ls d
  pub not_damaged : NotDamaged t
  pub one_for_lines : OneForShortLines t
  pub no_damage : AnswersNoDamage t
  pub rest_in_open : RestInOpen h t d
  pub uncrossed : Uncrossed (resting t)
  pub rising : RisingNumbers (orders t)
  pub none_defaulted : NoneDefaulted t
  pub run_is_logged : lots_run t ≡ line_run ls
  pub day_is_the_lists : day t ≡ d

abbrev pub EveryRun : Type 0
EveryRun = AfterEntries AfterRun

-- Whatever tables records are applied to: a GGF once found never becomes 0 again.
abbrev pub GgfsStay : Type 0
GgfsStay = (t : Tables) (run : List (Applied Reply)) → Kept AppliesReply t run → GgfsKept t (standing t run)

-- A run of the accepted records alone leads to the same ledger and the same lines.
abbrev pub Struck : Type 0
Struck =
    (t : Tables) (run accepted : List (Applied Reply))
    → Kept AppliesReply t run
    → Kept AppliesReply t accepted
    → calls accepted ≡ accepted_of (λ reply. reply) run
    → SameLedger (standing t run) (standing t accepted) × (printed (λ reply. reply) run ≡ printed (λ reply. reply) accepted)

-- The same records, applied to ledgers that agree but for surplus, are answered alike, with the same lines, and the ledgers still agree.
abbrev pub ReplaysAlike : Type 0
ReplaysAlike = RunsAlike (λ reply. reply) MakesReply AppliesReply

-- So a ledger made anew from the stored header, with the stored records applied to it, is the one that was lost, surplus apart.
abbrev pub Recovers : Type 0
Recovers = RunsRecover (λ reply. reply) MakesReply AppliesReply

-- Surplus that is no place for an order stays.
abbrev pub SurplusStays : Type 0
SurplusStays = RunsLeaveSurplus (λ reply. reply) MakesReply AppliesReply
