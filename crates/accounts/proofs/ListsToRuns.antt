-- What holds after every list of calls holds after every run whose calls kept their promises. Assumes nothing.
use Prim.Native.Nat.{ℕ}
use native.Mathlib.Omega.{arith}
use mathlib.Core.Path.{◌≡◌, refl, sym, ap, ◌∙◌}
use mathlib.Core.Bool.{true, false, not, cond}
use mathlib.Core.List.{List, [], ◌∷◌, ◌++◌}
use lib.Dec.{eqb}
use Rattle.arith.proofs.Tests.{true_or, passes}
use Rattle.rules.specs.Answers.{Outcome, Reply, reply_of}
use Rattle.rules.specs.Header.{Header, header_of, calendar_of, begins_with_header}
use Rattle.rules.specs.Ledger.{Tables, Line, ledger_short}
use Rattle.rules.specs.Records.{read_of}
use Rattle.rules.specs.Refusals.{make_spec}
use Rattle.rules.specs.Accounts.{call_spec, after, log, lists_day, day_after_event}
use Rattle.accounts.specs.EveryList.{AfterEveryList}
use Rattle.accounts.specs.Refused.{accepted_calls}
use Rattle.accounts.specs.EveryRun.{Applied, calls, standing, Kept, lines_of_reply, printed, day_of, accepted_of, MakesByRules, AppliesByRules, AfterEveryRun}

-- a ledger is made only from a sound header, in tables that are long enough
pub made_well : (t : Tables) (header : List ℕ) → (reply_of (make_spec t header).answer).number ≡ 0 → (ledger_short t ≡ false) × (begins_with_header header ≡ true)
unfolding make_spec
made_well t header e =
    true_or (ledger_short t) (λ s. absurd (let z : ◌≡◌ {A = ℕ} 0 1 = sym (rw s at e) in omega arith))
    (λ s. true_or (begins_with_header header) (λ b. (s, b)) (λ b. absurd (let z : ◌≡◌ {A = ℕ} 0 2 = sym (rw (s, b) at e) in omega arith)))

-- an outcome as it is seen: the reply, and what is left
abbrev pub told : Outcome Tables → Reply × Tables
told o = (reply_of o.answer, o.after)

module _ {A : Type 0} (reply : A → Reply) (Apply : Tables → List ℕ → A → Tables → Type 0) (applies : AppliesByRules reply Apply) where
  -- what a run brings, from tables t on day d, is what its list of calls brings
  pub record SameAsList (h : Header) (d : ℕ) (t : Tables) (run : List (Applied A)) : Type 0 where
    pub tables : after t (calls run) ≡ standing t run
    pub lines : log t (calls run) ≡ printed reply run
    pub days : lists_day h d t (calls run) ≡ day_of reply h d run
    pub accepted : accepted_calls t (calls run) ≡ accepted_of reply run

  pub same_as_list : (h : Header) (run : List (Applied A)) (d : ℕ) (t : Tables) → Kept Apply t run → SameAsList h d t run
  unfolding Kept standing printed day_of accepted_of after log lists_day accepted_calls
  same_as_list h [] d t k = record { tables = refl; lines = refl; days = refl; accepted = refl }
  same_as_list h (a ∷ run) d t k =
      let is = applies _ a.call.bytes a.answer a.left k.0 in
      let as-kept : told (call_spec t a.call) ≡ (reply a.answer, a.left) = λ i. (sym is.0 i, sym is.1 i) in
      let next = cond (eqb (reply a.answer).number 0) (day_after_event (calendar_of h) d (read_of h.members a.call.bytes)) d in
      let rest = same_as_list h run next a.left k.1 in
      record {
        tables = ap (λ (o : Reply × Tables). after o.1 (calls run)) as-kept ∙ rest.tables;
        lines =
            ap (λ (o : Reply × Tables). lines_of_reply o.0 o.1.lines ++ log o.1 (calls run)) as-kept
            ∙ ap (λ ls. lines_of_reply (reply a.answer) a.left.lines ++ ls) rest.lines;
        days =
            ap (λ (o : Reply × Tables). lists_day h (cond (eqb o.0.number 0) (day_after_event (calendar_of h) d (read_of h.members a.call.bytes)) d) o.1 (calls run)) as-kept
            ∙ rest.days;
        accepted =
            ap (λ (o : Reply × Tables). let others = accepted_calls o.1 (calls run) in cond (eqb o.0.number 0) (a.call ∷ others) others) as-kept
            ∙ ap (λ others. cond (eqb (reply a.answer).number 0) (a.call ∷ others) others) rest.accepted;
      }

  pub after_every_run : (Make : Tables → List ℕ → A → Tables → Type 0) → MakesByRules reply Make → (P : Header → Tables → List Line → ℕ → Type 0)
      → AfterEveryList P → AfterEveryRun reply Make Apply P
  after_every_run Make makes P every header t made answer run m e k =
      let h = header_of header in
      let is = makes t header answer made m in
      let well = made_well t header (sym is.0 ∙ e) in
      let same = same_as_list h run h.start_day made k in
      rw (← same.tables, ← same.lines, ← same.days, is.1)
      (every header t (calls run) (passes _ well.1) (passes _ (ap not well.0)))
