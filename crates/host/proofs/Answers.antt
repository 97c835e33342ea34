-- What the entries answer, as numbers. Assumes nothing.
use Prim.Native.Nat.{ℕ}
use mathlib.Core.Path.{◌≡◌, sym, ap, ◌∙◌}
use mathlib.Core.List.{List}
use lib.IntN.{ℤ}
use Rattle.std.specs.Prelude.{Result}
use Rattle.arith.proofs.Tests.{true_or}
use Rattle.rules.specs.Answers.{Outcome, reply_of}
use Rattle.rules.specs.Header.{begins_with_header}
use Rattle.rules.specs.Ledger.{Tables, lent, ledger_short}
use Rattle.rules.specs.Refusals.{make_spec}
use Rattle.tables.specs.declared.lent.LentTables.{LentTables}
use Rattle.tables.specs.Lent.{tables_of, SameTables}
use Rattle.host.specs.Sent.{sent}
use Rattle.rules.specs.declared.refusal.Refusal.{Refusal}

no_value : (t : Tables) (s : List ℕ) → (reply_of (make_spec t s).answer).detail ≡ 0
unfolding make_spec
no_value t s = true_or (ledger_short t) (λ e. rw e) (λ e. rw e (true_or (begins_with_header s) (λ f. rw f) (λ f. rw f)))

pub made : (t after : Tables) (s : List ℕ) (a : Result ℕ Refusal) (r : ℕ) → record { answer = a; after = after } ≡ make_spec t s → r ≡ (reply_of a).number
    → record { number = r; detail = 0; after = after } ≡ sent (make_spec t s)
made t after s a r e f =
    let a-is : a ≡ (make_spec t s).answer = ap (λ (o : Outcome Tables). o.answer) e in
    let v-is : (reply_of a).detail ≡ 0 = ap (λ (x : Result ℕ Refusal). (reply_of x).detail) a-is ∙ no_value t s in
    rw (← e, f) (ap (λ (v : ℕ). record { number = (reply_of a).number; detail = v; after = after }) (sym v-is))

-- What a call answers, with what goes with it and what it leaves.
pub answered : {S : Type 0} {after : S} {a : Result ℕ Refusal} {number detail : ℕ} (o : Outcome S) → record { answer = a; after = after } ≡ o
    → number ≡ (reply_of a).number → detail ≡ (reply_of a).detail → record { number = number; detail = detail; after = after } ≡ sent o
answered o e n d = rw (← e, n, d)

-- The same where the tables were lent together: each is what stands in its place after the call, since it is still the one lent.
pub answered_lent : {before after : LentTables} {head prices book : List ℕ} {lots value lines : List ℤ} {a : Result ℕ Refusal} {number detail : ℕ}
    (o : Outcome Tables) → record { answer = a; after = tables_of after } ≡ o → number ≡ (reply_of a).number → detail ≡ (reply_of a).detail
    → SameTables before after
    → (before.head.ghost_name ≡ after.head.ghost_name → head ≡ after.head.now)
    → (before.prices.ghost_name ≡ after.prices.ghost_name → prices ≡ after.prices.now)
    → (before.lots.ghost_name ≡ after.lots.ghost_name → lots ≡ after.lots.now)
    → (before.value.ghost_name ≡ after.value.ghost_name → value ≡ after.value.now)
    → (before.book.ghost_name ≡ after.book.ghost_name → book ≡ after.book.now)
    → (before.lines.ghost_name ≡ after.lines.ghost_name → lines ≡ after.lines.now)
    → record { number = number; detail = detail; after = lent head prices lots value book lines } ≡ sent o
answered_lent o e n d same in-head in-prices in-lots in-value in-book in-lines =
    rw (in-head (sym same.head), in-prices (sym same.prices), in-lots (sym same.lots), in-value (sym same.value), in-book (sym same.book), in-lines (sym same.lines))
    (answered o e n d)
