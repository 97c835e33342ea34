-- What one record prints, by its answer. Assumes nothing.
use Prim.Native.Nat.{ℕ, ◌+◌, ◌*◌, ◌≤◌}
use mathlib.Core.Bool.{Bool, true, false}
use mathlib.Core.List.{List, flat_map}
use mathlib.Core.Path.{◌≡◌, refl, sym, ap, ◌∙◌}
use native.Mathlib.Omega.{arith}
use borrow.Author.Tests.{eq-eqb, ne_eqb}
use lib.Dec.{eqb}
use Rattle.std.specs.Prelude.{Result}
use Rattle.rules.specs.Answers.{Outcome, reply_of}
use Rattle.rules.specs.Journal.{deal_text, refusal_text, answer_text}
use Rattle.rules.specs.Ledger.{Tables, first_lines}
use Rattle.rules.specs.Ranges.{least_lines}
use Rattle.rules.specs.Refusals.{apply_spec}
use Rattle.accounts.proofs.LengthsStay.{at_most_200_lines}
use Rattle.text.specs.Wrote.{Wrote}
use Rattle.printing.specs.Room.{line_room}
use Rattle.journal.specs.Stages.{RanOne}
use Rattle.rules.specs.declared.refusal.Refusal.{Refusal}

-- An accepted record has at most 200 lines.
pub few_lines : (t after : Tables) (bytes : List ℕ) (a : Result ℕ Refusal) (number detail : ℕ) → record { answer = a; after = after } ≡ apply_spec t bytes
    → number ≡ (reply_of a).number → detail ≡ (reply_of a).detail → number ≡ 0 → detail ≤ least_lines
few_lines t after bytes a number detail e f g z =
    let same : a ≡ (apply_spec t bytes).answer = ap (λ (o : Outcome Tables). o.answer) e in
    let accepted : eqb (reply_of (apply_spec t bytes).answer).number 0 ≡ true = ap (λ (x : Result ℕ Refusal). eqb (reply_of x).number 0) (sym same) ∙ eq-eqb (reply_of a).number 0 (sym f ∙ z) in
    let few = at_most_200_lines t bytes accepted in
    let is : detail ≡ (reply_of (apply_spec t bytes).answer).detail = g ∙ ap (λ (x : Result ℕ Refusal). (reply_of x).detail) same in
    omega arith

module _ (o : Outcome Tables) (after : Tables) (a : Result ℕ Refusal) (number detail record-number place end : ℕ) (entry exit : List ℕ)
    (is : record { answer = a; after = after } ≡ o) (number_is : number ≡ (reply_of a).number) (detail_is : detail ≡ (reply_of a).detail) where
  pub printed_lines : number ≡ 0 → detail ≤ least_lines → Wrote place (flat_map deal_text (first_lines detail after.lines)) entry exit end × (end ≤ place + line_room * detail)
      → RanOne record-number place o entry exit after (record { end = end; is_accepted = true; is_unsound = false })
  unfolding answer_text
  printed_lines z few w =
      let accepted : (reply_of a).number ≡ 0 = sym number_is ∙ z in
      rw (← is)
      (record {
        outcome = refl;
        wrote = rw (accepted, ← detail_is) w.0;
        room = omega (arith, w.1);
        accepted = rw accepted refl;
        unsound = rw accepted refl;
      })

  pub printed_refusal : (unsound : Bool) → (number ≡ 0 → ⊥) → unsound ≡ eqb number 3 → Wrote place (refusal_text record-number number) entry exit end × (end ≤ place + line_room)
      → RanOne record-number place o entry exit after (record { end = end; is_accepted = false; is_unsound = unsound })
  unfolding answer_text
  printed_refusal unsound z u w =
      let refused : eqb (reply_of a).number 0 ≡ false = ne_eqb (reply_of a).number 0 (λ y. z (number_is ∙ y)) in
      rw (← is)
      (record {
        outcome = refl;
        wrote = rw (refused, ← number_is) w.0;
        room = omega (arith, w.1);
        accepted = rw refused refl;
        unsound = rw (← number_is) u;
      })
