-- What reading a record to a row and writing one from a row answer, by the tests that lead to it. Assumes nothing.
use Prim.Native.Nat.{ℕ, ◌≤◌, ◌<◌}
use mathlib.Core.List.{List}
use mathlib.Core.Path.{◌≡◌, refl, sym, ap, ◌∙◌}
use borrow.Author.Tests.{lt-ltb, le-ltb}
use lib.ListN.{length, take}
use Rattle.std.specs.Prelude.{Option, Some, None, Err}
use Rattle.arith.proofs.Runs.{length_run}
use Rattle.rules.specs.declared.refusal.Refusal.TheVariants.{TableUnsound, RecordUnsound}
use Rattle.rules.specs.declared.event.Event.{Event}
use Rattle.rules.specs.declared.event.Leg.{Leg}
use Rattle.rules.specs.Answers.{Outcome}
use Rattle.rules.specs.Ranges.{most_legs}
use Rattle.rules.specs.Records.{leg_in, write_spec, legs_of, read_of}
use Rattle.record_kinds.specs.Numbers.{leg_count}
use Rattle.codec.specs.Legs.{in_places, held_legs}
use Rattle.codec.proofs.Fields.{said}
use Rattle.codec.proofs.PlacedLegs.{placed, places_said}
use Rattle.codec.proofs.Written.{sound_event}
use Rattle.number_fields.specs.RecordFields.{record_fields, leg_field, event_in, first_legs, legs_in, with_numbers, with_reading, read_fields, write_reading, write_fields}
use Rattle.number_fields.proofs.Given.{given, legs_given}

pub length_legs : (f : List ℕ) (n : ℕ) → length (first_legs f n) ≡ n
unfolding first_legs
length_legs f n = length_run (λ j. leg_in f (leg_field j)) n

-- ---- reading
module _ (n : ℕ) (s row : List ℕ) where
  pub read_short : length row < record_fields → record { answer = Err TableUnsound; after = row } ≡ read_fields n s row
  unfolding read_fields
  read_short h = rw (lt-ltb (length row) record_fields h) refl

  module _ {r : Option Event} (q : r ≡ read_of n s) where
    module _ (h : record_fields ≤ length row) where
      pub read_by : read_fields n s row ≡ with_reading r (legs_of s) row
      unfolding read_fields
      read_by = rw (le-ltb (length row) record_fields h, ← q) refl

      pub read_unsound : r ≡ None → record { answer = Err RecordUnsound; after = row } ≡ read_fields n s row
      read_unsound u = sym (read_by ∙ rw u refl)

    module _ {e : Event} (u : r ≡ Some e) where
      read : read_of n s ≡ Some e
      read = sym q ∙ u

      pub few_read : leg_count e ≤ most_legs
      few_read = let known = said n s read in (sound_event n known.0 (legs_of s) e known.2).few

      pub legs_read : take (leg_count e) (in_places (held_legs s)) ≡ legs_of s
      legs_read = let known = said n s read in places_said n s e known.1 known.2

      pub read_sound : record_fields ≤ length row → {l : List Leg} {o : Outcome (List ℕ)} → l ≡ in_places (held_legs s)
          → o ≡ with_numbers e (take (leg_count e) l) row → o ≡ read_fields n s row
      read_sound h {l} {o} c w =
          let rows : take (leg_count e) l ≡ legs_of s = rw c legs_read in
          w ∙ (ap (λ x. with_numbers e x row) rows ∙ sym (read_by h ∙ rw u refl))

-- ---- writing
module _ (n : ℕ) (row out : List ℕ) where
  pub write_short : length row < record_fields → record { answer = Err TableUnsound; after = out } ≡ write_fields n row out
  unfolding write_fields
  write_short h = rw (lt-ltb (length row) record_fields h) refl

  module _ {r : Option Event} (q : r ≡ event_in row) where
    module _ (h : record_fields ≤ length row) where
      pub write_by : write_fields n row out ≡ write_reading n r (legs_in row) out
      unfolding write_fields
      write_by = rw (le-ltb (length row) record_fields h, ← q) refl

      pub write_none : r ≡ None → record { answer = Err RecordUnsound; after = out } ≡ write_fields n row out
      write_none u = sym (write_by ∙ rw u refl)

      module _ {e : Event} (u : r ≡ Some e) where
        pub few_in : leg_count e ≤ most_legs
        few_in = (given row e h (sym q ∙ u)).few

        rows_in : take (leg_count e) (in_places (first_legs row (leg_count e))) ≡ legs_in row
        rows_in =
            let legs = first_legs row (leg_count e) in
            rw (length_legs row (leg_count e)) at (placed legs) ∙ sym (legs_given row e (given row e h (sym q ∙ u)))

        pub write_event : {k : ℕ} {l : List Leg} {o : Outcome (List ℕ)} → k ≡ leg_count e → l ≡ in_places (first_legs row k)
            → o ≡ write_spec n e (take (leg_count e) l) out → o ≡ write_fields n row out
        write_event {k} {l} {o} c d w =
            let rows : take (leg_count e) l ≡ legs_in row = rw (d, c) rows_in in
            w ∙ (ap (λ x. write_spec n e x out) rows ∙ sym (write_by ∙ rw u refl))
