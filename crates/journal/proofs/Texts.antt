-- What the records of some bytes print, and how they end, record by record. Assumes nothing.
use Prim.Native.Nat.{ℕ, zero, suc, ◌+◌, ◌<◌, ◌≤◌}
use mathlib.Core.Bool.{cond}
use mathlib.Core.List.{List, ◌++◌}
use mathlib.Core.Path.{◌≡◌, refl, sym, ap, ◌∙◌}
use native.Mathlib.Omega.{arith}
use borrow.Author.Tests.{eq-eqb, ne_eqb}
use lib.ListN.{length, take, drop, length-drop}
use Rattle.arith.proofs.Tests.{le_or_lt}
use Rattle.rules.specs.Answers.{Outcome}
use Rattle.rules.specs.Journal.{end_text, answer_text, stops, accepted_by, next_length, records_within, records_text}
use Rattle.rules.specs.Ledger.{Tables}
use Rattle.rules.specs.Refusals.{apply_spec}
use Rattle.journal.specs.declared.stage.Stage.TheVariants.{ReadToEnd, RecordUnsound}
use Rattle.journal.specs.Stages.{JournalEnd, records_end_within, records_end}
use Rattle.journal.proofs.Fronts.{next_some}

abbrev outcome_of : Tables → List ℕ → Outcome Tables
outcome_of t s = apply_spec t (take (next_length s) s)

behind_short : (s : List ℕ) → 0 < length s → length (drop (next_length s) s) < length s
behind_short s h = rw (length-drop (next_length s) s) (omega (arith, next_some s h))

-- Going from record to record with fuel: what it gives without bytes, and what it makes of a record and of the bytes behind it.
module _ {A : Type 0} (go : ℕ → ℕ → ℕ → Tables → List ℕ → A) (none : ℕ → ℕ → Tables → A) (join : ℕ → ℕ → Outcome Tables → A → A)
    (at_end_lem : (f n k : ℕ) (t : Tables) (s : List ℕ) → length s ≡ 0 → go f n k t s ≡ none n k t)
    (at_next : (f n k : ℕ) (t : Tables) (s : List ℕ) → 0 < length s
    → go (suc f) n k t s ≡ join n k (outcome_of t s) (go f (n + 1) (k + accepted_by (outcome_of t s).answer) (outcome_of t s).after (drop (next_length s) s))) where
  -- Fuel for each byte is enough.
  fuel : (f g n k : ℕ) (t : Tables) (s : List ℕ) → length s ≤ f → length s ≤ g → go f n k t s ≡ go g n k t s
  fuel zero g n k t s h i = at_end_lem zero n k t s (omega arith) ∙ sym (at_end_lem g n k t s (omega arith))
  fuel (suc f) zero n k t s h i = at_end_lem (suc f) n k t s (omega arith) ∙ sym (at_end_lem zero n k t s (omega arith))
  fuel (suc f) (suc g) n k t s h i =
      le_or_lt (length s) 0
      (λ z. at_end_lem (suc f) n k t s (omega arith) ∙ sym (at_end_lem (suc g) n k t s (omega arith)))
      (λ z. let less = behind_short s z in
      at_next f n k t s z
      ∙ (ap (join n k (outcome_of t s)) (fuel f g (n + 1) (k + accepted_by (outcome_of t s).answer) (outcome_of t s).after (drop (next_length s) s) (omega arith) (omega arith))
      ∙ sym (at_next g n k t s z)))

  record_by_record : (n k : ℕ) (t : Tables) (s : List ℕ) → 0 < length s
      → go (length s) n k t s
      ≡ join n k (outcome_of t s)
      (go (length (drop (next_length s) s)) (n + 1) (k + accepted_by (outcome_of t s).answer) (outcome_of t s).after (drop (next_length s) s))
  record_by_record n k t s h =
      let less = behind_short s h in
      fuel (length s) (suc (length s)) n k t s (omega arith) (omega arith)
      ∙ (at_next (length s) n k t s h
      ∙ ap (join n k (outcome_of t s))
      (fuel (length s) (length (drop (next_length s) s)) (n + 1) (k + accepted_by (outcome_of t s).answer) (outcome_of t s).after (drop (next_length s) s) (omega arith) (omega arith)))

-- ---- the text
-- What is printed of a record, and behind it E after number 3, else this.
abbrev joined_text : ℕ → ℕ → Outcome Tables → List ℕ → List ℕ
joined_text n k o behind = answer_text (n + 1) o ++ cond (stops o.answer) (end_text (n + 1) (k + accepted_by o.answer) o.after) behind

text_end : (f n k : ℕ) (t : Tables) (s : List ℕ) → length s ≡ 0 → records_within f n k t s ≡ end_text n k t
unfolding records_within
text_end zero n k t s e = refl
text_end (suc f) n k t s e = rw (eq-eqb (length s) 0 e) refl

text_next : (f n k : ℕ) (t : Tables) (s : List ℕ) → 0 < length s
    → records_within (suc f) n k t s
    ≡ joined_text n k (outcome_of t s) (records_within f (n + 1) (k + accepted_by (outcome_of t s).answer) (outcome_of t s).after (drop (next_length s) s))
unfolding records_within
text_next f n k t s h = rw (ne_eqb (length s) 0 (λ z. omega arith)) refl

pub records_none : (n k : ℕ) (t : Tables) (s : List ℕ) → length s ≡ 0 → records_text n k t s ≡ end_text n k t
unfolding records_text
records_none n k t s e = text_end (length s) n k t s e

pub records_next : (n k : ℕ) (t : Tables) (s : List ℕ) → 0 < length s
    → records_text n k t s
    ≡ joined_text n k (outcome_of t s) (records_text (n + 1) (k + accepted_by (outcome_of t s).answer) (outcome_of t s).after (drop (next_length s) s))
unfolding records_text
records_next n k t s h = record_by_record records_within end_text joined_text text_end text_next n k t s h

-- ---- the end
abbrev joined_end : Outcome Tables → JournalEnd → JournalEnd
joined_end o behind = cond (stops o.answer) (record { stage = RecordUnsound; tables = o.after }) behind

end_end : (f : ℕ) (t : Tables) (s : List ℕ) → length s ≡ 0 → records_end_within f t s ≡ record { stage = ReadToEnd; tables = t }
unfolding records_end_within
end_end zero t s e = refl
end_end (suc f) t s e = rw (eq-eqb (length s) 0 e) refl

end_next : (f : ℕ) (t : Tables) (s : List ℕ) → 0 < length s
    → records_end_within (suc f) t s ≡ joined_end (outcome_of t s) (records_end_within f (outcome_of t s).after (drop (next_length s) s))
unfolding records_end_within
end_next f t s h = rw (ne_eqb (length s) 0 (λ z. omega arith)) refl

pub ends_none : (t : Tables) (s : List ℕ) → length s ≡ 0 → records_end t s ≡ record { stage = ReadToEnd; tables = t }
unfolding records_end
ends_none t s e = end_end (length s) t s e

pub ends_next : (t : Tables) (s : List ℕ) → 0 < length s → records_end t s ≡ joined_end (outcome_of t s) (records_end (outcome_of t s).after (drop (next_length s) s))
unfolding records_end
ends_next t s h =
    record_by_record (λ f n k u l. records_end_within f u l) (λ n k u. record { stage = ReadToEnd; tables = u }) (λ n k o x. joined_end o x) (λ f n k u l e. end_end f u l e)
    (λ f n k u l e. end_next f u l e) 0 0 t s h
