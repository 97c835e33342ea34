-- A journal's header: cut, made into a ledger, or turned back. Assumes nothing.
use Prim.Native.Nat.{ℕ, ◌+◌, ◌-◌, ◌≤◌}
use mathlib.Core.Bool.{Bool, true, false, not, ◌&&◌}
use mathlib.Core.List.{List, [], ◌++◌, append-nil}
use mathlib.Core.Path.{◌≡◌, refl, sym, ap, ◌∙◌}
use native.Mathlib.Omega.{arith}
use borrow.Author.Tests.{ltb-true, ne_eqb, not-true}
use lib.Dec.{ltb}
use lib.ListN.{length, drop}
use Rattle.std.specs.Prelude.{Result}
use Rattle.arith.proofs.Tests.{and_left, and_right}
use Rattle.rules.specs.Answers.{Outcome, reply_of}
use Rattle.rules.specs.Header.{header_length}
use Rattle.rules.specs.Journal.{head_text, refusal_text, records_text, journal_text_on}
use Rattle.rules.specs.Ledger.{Tables, with_head}
use Rattle.rules.specs.Refusals.{make_spec}
use Rattle.text.specs.Wrote.{Wrote}
use Rattle.text.proofs.Writing.{wrote_none}
use Rattle.printing.specs.Room.{line_room}
use Rattle.journal.specs.declared.stage.Stage.{Stage}
use Rattle.journal.specs.declared.stage.Stage.TheVariants.{Header, Records, Read, Stopped, ReadToEnd, RecordUnsound, HeaderUnsound}
use Rattle.journal.specs.declared.stage.Wants.{Wants}
use Rattle.journal.specs.declared.stage.Wants.TheVariants.{Nothing, Bytes}
use Rattle.journal.specs.Stages.{remaining, records_end, journal_end_on, end_from, Rest, after_header, after_records, counted_at, after_stage, Counts, Asks, Advanced}
use Rattle.journal.proofs.Headers.{same_made, same_length, made_inside}
use Rattle.rules.specs.declared.refusal.Refusal.{Refusal}

-- A stage that stays has nothing run.
stays : (stage : Stage) (x : Rest) → after_stage stage stage x ≡ x
unfolding after_stage counted_at after_records
stays Header x = refl
stays (Records n k) x = let none : n - n ≡ 0 = omega arith in rw none refl
stays (Read n k) x = refl
stays (Stopped n k) x = refl
stays ReadToEnd x = refl
stays RecordUnsound x = refl
stays HeaderUnsound x = refl

-- Nothing is run, where this is what is asked for.
pub none_run : (stage : Stage) (t : Tables) (bytes : List ℕ) (last : Bool) (filled : ℕ) (entry : List ℕ) (wants : Wants) → filled ≤ length entry
    → ((room : ℕ) → filled + room ≡ length entry → Asks wants stage stage bytes last room)
    → ((most : ℕ) → Counts stage most → Counts stage (most + length bytes))
    → Advanced stage t bytes last filled entry entry t (record { used = 0; end = filled; stage = stage; wants = wants })
none_run stage t bytes last filled entry wants f asks counts =
    record { text = []; wrote = wrote_none filled entry; inside = omega arith; within = f; counts = counts; asks = asks; rest = λ more ends. refl; tables = λ more ends. sym (stays stage (record { tables = t; bytes = bytes ++ more })); ends = λ more ends. refl }

pub start_cut : (t : Tables) (bytes : List ℕ) (last : Bool) (filled : ℕ) (entry : List ℕ) → filled ≤ length entry → not last && ltb (length bytes) (header_length bytes) ≡ true
    → Advanced Header t bytes last filled entry entry t (record { used = 0; end = filled; stage = Header; wants = Bytes })
start_cut t bytes last filled entry f cut =
    let short = ltb (length bytes) (header_length bytes) in
    none_run Header t bytes last filled entry Bytes f
    (λ room e. (not-true last (and_left (not last) short cut), ltb-true (length bytes) (header_length bytes) (and_right (not last) short cut))) (λ most c. tt)

-- What a journal prints, by its header.
journal_made : (t : Tables) (s : List ℕ) (o : Outcome Tables) (m : ℕ) → make_spec t s ≡ o → (reply_of o.answer).number ≡ 0 → header_length s ≡ m
    → journal_text_on t s ≡ head_text o.after ++ records_text 0 0 o.after (drop m s)
unfolding journal_text_on
journal_made t s o m e z f = rw (e, z, f) refl

end_made : (t : Tables) (s : List ℕ) (o : Outcome Tables) (m : ℕ) → make_spec t s ≡ o → (reply_of o.answer).number ≡ 0 → header_length s ≡ m
    → journal_end_on t s ≡ records_end o.after (drop m s)
unfolding journal_end_on
end_made t s o m e z f = rw (e, z, f) refl

rest_made : (t : Tables) (s : List ℕ) (o : Outcome Tables) (m : ℕ) → make_spec t s ≡ o → (reply_of o.answer).number ≡ 0 → header_length s ≡ m
    → record { tables = o.after; bytes = drop m s } ≡ after_header (record { tables = t; bytes = s })
unfolding after_header
rest_made t s o m e z f = rw (e, z, f) refl

journal_refused : (t : Tables) (s : List ℕ) (o : Outcome Tables) → make_spec t s ≡ o → ((reply_of o.answer).number ≡ 0 → ⊥) → journal_text_on t s ≡ refusal_text 0 (reply_of o.answer).number
unfolding journal_text_on
journal_refused t s o e z = rw (e, ne_eqb (reply_of o.answer).number 0 z) refl

end_refused : (t : Tables) (s : List ℕ) (o : Outcome Tables) → make_spec t s ≡ o → ((reply_of o.answer).number ≡ 0 → ⊥) → journal_end_on t s ≡ record { stage = HeaderUnsound; tables = o.after }
unfolding journal_end_on
end_refused t s o e z = rw (e, ne_eqb (reply_of o.answer).number 0 z) refl

rest_refused : (t : Tables) (s : List ℕ) (o : Outcome Tables) → make_spec t s ≡ o → ((reply_of o.answer).number ≡ 0 → ⊥)
    → record { tables = o.after; bytes = s } ≡ after_header (record { tables = t; bytes = s })
unfolding after_header
rest_refused t s o e z = rw (e, ne_eqb (reply_of o.answer).number 0 z) refl

module _ (t after : Tables) (bytes : List ℕ) (last : Bool) (filled : ℕ) (entry exit : List ℕ) (a : Result ℕ Refusal) (made : record { answer = a; after = after } ≡ make_spec t bytes)
    (whole : not last && ltb (length bytes) (header_length bytes) ≡ false) (number end : ℕ) (is-told : number ≡ (reply_of a).number) (room : filled + line_room ≤ length entry) where
  abbrev o : Outcome Tables
  o = record { answer = a; after = after }

  with_more : (more : List ℕ) → (last ≡ true → more ≡ []) → make_spec t (bytes ++ more) ≡ o
  with_more more ends = same_made bytes last whole more ends t ∙ sym made

  pub start_made : (m : ℕ) → m ≡ header_length bytes → number ≡ 0 → ((u : Tables) → Wrote filled (head_text (with_head after.head u)) entry exit end) → end ≤ filled + line_room
      → Advanced Header t bytes last filled entry exit after (record { used = m; end = end; stage = Records 0 0; wants = Nothing })
  unfolding remaining end_from after_stage
  start_made m e z w short =
      let zero-told : (reply_of a).number ≡ 0 = sym is-told ∙ z in
      record {
        text = head_text after;
        wrote = w after;
        inside = rw e (made_inside t bytes o (sym made) zero-told);
        within = omega arith;
        counts = λ most c. (omega arith, omega arith);
        asks = λ r f h. omega arith;
        rest = λ more ends. journal_made t (bytes ++ more) o m (with_more more ends) zero-told (same_length bytes last whole more ends ∙ sym e);
        tables = λ more ends. rest_made t (bytes ++ more) o m (with_more more ends) zero-told (same_length bytes last whole more ends ∙ sym e);
        ends = λ more ends. end_made t (bytes ++ more) o m (with_more more ends) zero-told (same_length bytes last whole more ends ∙ sym e);
      }

  pub start_refused : (number ≡ 0 → ⊥) → Wrote filled (refusal_text 0 number) entry exit end → end ≤ filled + line_room
      → Advanced Header t bytes last filled entry exit after (record { used = 0; end = end; stage = HeaderUnsound; wants = Nothing })
  unfolding remaining end_from after_stage
  start_refused z w short =
      record {
        text = refusal_text 0 number;
        wrote = w;
        inside = omega arith;
        within = omega arith;
        counts = λ most c. tt;
        asks = λ r f h. omega arith;
        rest = λ more ends.
            journal_refused t (bytes ++ more) o (with_more more ends) (λ y. z (is-told ∙ y)) ∙ (ap (refusal_text 0) (sym is-told) ∙ sym (append-nil (refusal_text 0 number)));
        tables = λ more ends. rest_refused t (bytes ++ more) o (with_more more ends) (λ y. z (is-told ∙ y));
        ends = λ more ends. end_refused t (bytes ++ more) o (with_more more ends) (λ y. z (is-told ∙ y));
      }
