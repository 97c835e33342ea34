-- What is refused changes nothing: where a cause holds the tables stay, and what is booked is accepted.
use mathlib.Core.Path.{◌≡◌, refl, sym, ap, subst, ◌∙◌}
use mathlib.Core.Bool.{false, not, cond}
use mathlib.Core.List.{List, [], ◌∷◌, ◌++◌}
use lib.IntN.{ℤ}
use Rattle.std.specs.Prelude.{Ok}
use Rattle.arith.proofs.Tests.{never, by_bool}
use Rattle.rules.specs.declared.refusal.Refusal.TheVariants.{TableUnsound, HeaderUnsound}
use Rattle.rules.specs.Answers.{Outcome, reply_of}
use Rattle.rules.specs.Header.{header_of, begins_with_header}
use Rattle.rules.specs.Ledger.{Tables, with_lines, first_lines, ledger_short, fresh}
use Rattle.rules.specs.Refusals.{apply_spec, make_spec}
use Rattle.rules.specs.Accounts.{Call, call_spec, after, is_accepted, lines_of, log}
use Rattle.accounts.specs.Refused.{RefusedChangesNothing, RefusedMakesNothing, accepted_calls, SameLedger, StrikingChangesNothing}
use Rattle.accounts.proofs.EachKind.{decide_shows, kind_decides, every_call}

abbrev Leaves : Tables → Outcome Tables → Type 0
Leaves t o = is_accepted o.answer ≡ false → o.after ≡ t

pub refused_changes_nothing : RefusedChangesNothing
refused_changes_nothing = every_call Leaves (λ t a q _. refl) (λ e t legs u s n q. never (sym (kind_decides t e legs).accepted ∙ q))

pub refused_makes_nothing : RefusedMakesNothing
unfolding make_spec
refused_makes_nothing t bytes =
    decide_shows (Leaves t) t (record { answer = Ok 0; after = fresh (header_of bytes) t }) ((ledger_short t, TableUnsound) ∷ (not (begins_with_header bytes), HeaderUnsound) ∷ [])
    (λ a q _. refl) (λ _ q. never q)

-- ---- a list without its refused calls
ledger_same : (t : Tables) → SameLedger t t
ledger_same t = record { head = refl; prices = refl; lots = refl; value = refl; book = refl }

-- with the same line table lent, the same tables
lent_same : {t u : Tables} (l : List ℤ) → SameLedger t u → with_lines l t ≡ with_lines l u
lent_same l s = λ i. record { head = s.head i; prices = s.prices i; lots = s.lots i; value = s.value i; book = s.book i; lines = l }

-- a line table is no part of the ledger
relent : {t u : Tables} (l : List ℤ) → SameLedger t u → SameLedger (with_lines l t) u
relent l s = record { head = s.head; prices = s.prices; lots = s.lots; value = s.value; book = s.book }

-- t and u: the tables so far, with and without the refused calls
struck_same : (t u : Tables) (calls : List Call) → SameLedger t u
    → SameLedger (after t calls) (after u (accepted_calls t calls)) × (log t calls ≡ log u (accepted_calls t calls))
unfolding after log accepted_calls
struck_same t u [] s = (s, refl)
struck_same t u (call ∷ calls) s =
    let o = call_spec t call in
    let rest = accepted_calls o.after calls in
    let lines = lines_of o.answer o.after.lines in
    by_bool (λ b. SameLedger (after o.after calls) (after u (cond b (call ∷ rest) rest)) × (lines ++ log o.after calls ≡ log u (cond b (call ∷ rest) rest)))
    (is_accepted o.answer)
    (λ _. let ih = struck_same o.after o.after calls (ledger_same o.after) in
    subst (λ (x : Outcome Tables). SameLedger (after o.after calls) (after x.after rest) × (lines ++ log o.after calls ≡ lines_of x.answer x.after.lines ++ log x.after rest))
    (ap (λ v. apply_spec v call.bytes) (lent_same call.lines s)) (ih.0, ap (λ ls. lines ++ ls) ih.1))
    (λ e. let left = refused_changes_nothing (with_lines call.lines t) call.bytes e in
    let ih = struck_same o.after u calls (subst (λ v. SameLedger v u) (sym left) (relent call.lines s)) in
    (ih.0, ap (λ b. cond b (first_lines (reply_of o.answer).detail o.after.lines) [] ++ log o.after calls) e ∙ ih.1))

pub striking_changes_nothing : StrikingChangesNothing
striking_changes_nothing t calls = struck_same t t calls (ledger_same t)
