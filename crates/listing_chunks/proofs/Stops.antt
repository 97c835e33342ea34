-- A listing stops where the journal stops. Assumes nothing.
use Prim.Native.Nat.{ℕ, ◌<◌, ◌≤◌}
use mathlib.Core.Bool.{true, false, not}
use mathlib.Core.List.{List, [], ◌∷◌}
use mathlib.Core.Path.{◌≡◌, refl, sym, ap, ◌∙◌}
use native.Mathlib.Omega.{arith}
use borrow.Author.Tests.{ne_eqb, eqb-true, eqb-false, le-leb, le-ltb, leb-true, leb-false}
use lib.Dec.{eqb, leb}
use lib.ListN.{length, take, drop, take-append-drop, get_or-append}
use lib.ListN.{get_or}
use lib.Seq.{length-take-le, take_all}
use Rattle.std.specs.Prelude.{Option, Some, None, Err}
use Rattle.arith.specs.Lists.{All}
use Rattle.arith.proofs.Tests.{true_or, and_true}
use Rattle.rules.specs.declared.event.Leg.{Leg}
use Rattle.rules.specs.declared.refusal.Refusal.TheVariants.{RecordUnsound}
use Rattle.rules.specs.Accounts.{is_accepted}
use Rattle.rules.specs.Answers.{Outcome, reply_of, rank_of, rank, Cause, decide}
use Rattle.rules.specs.Fields.{kind_fields, widths, number_at}
use Rattle.rules.specs.Header.{members_sound}
use Rattle.rules.specs.Journal.{stops, length_by_front, next_length}
use Rattle.rules.specs.Ledger.{Tables, members}
use Rattle.rules.specs.Records.{record_length, front_length, front_of, legs_of, read_of}
use Rattle.rules.specs.Refusals.{unsound, kind_causes, kind_booked, event_spec, reading_spec, apply_spec}
use Rattle.accounts.proofs.EachKind.{all_above, kind_decides}
use Rattle.journal.proofs.Fronts.{two_at_least}
use Rattle.listing.specs.Exact.{is_sound}
use Rattle.listing.proofs.RecordFaults.{kind_out, record_exact}
use Rattle.listing_words.specs.Fields.{fields_in, range, within, verdict_of, fault_in, is_none, fault_of}
use Rattle.rules.specs.declared.event.Event.{Event}

-- ---- number 3 is for unsound records alone
goes_on : (causes : List Cause) (t : Tables) (o : Outcome Tables) → All (λ cause. rank (Err RecordUnsound) < rank (Err cause.1)) causes → is_accepted o.answer ≡ true
    → stops (decide causes t o).answer ≡ false
goes_on [] t o h a = ne_eqb (reply_of o.answer).number 3 (λ z. omega (arith, eqb-true (reply_of o.answer).number 0 a))
goes_on ((true, x) ∷ causes) t o h a = ne_eqb (reply_of (Err x)).number 3 (λ z. absurd (omega (arith, h.0, ap rank_of z)))
goes_on ((false, x) ∷ causes) t o h a = goes_on causes t o h.1 a

stops_reading : (t : Tables) (x : Option Event) (legs : List Leg) → stops (reading_spec t x legs).answer ≡ not (is_sound x)
unfolding reading_spec event_spec
stops_reading t None legs = refl
stops_reading t (Some e) legs =
    let k = kind_decides t e legs in
    goes_on (kind_causes t e legs) t (kind_booked t e legs) (all_above (rank (Err RecordUnsound)) (kind_causes t e legs) k.in_order_holds) k.accepted

stops_exactly : (t : Tables) (bytes : List ℕ) → unsound t ≡ false → stops (apply_spec t bytes).answer ≡ not (is_sound (read_of (members t) bytes))
unfolding apply_spec
stops_exactly t bytes e = rw e (stops_reading t (read_of (members t) bytes) (legs_of bytes))

-- ---- the next record has no bytes past its fields
-- Each of the kinds 1 to 7 has a length.
kind_unknown : (k legs : ℕ) → record_length k legs ≡ 0 → within (range 1 7) k ≡ false
unfolding record_length kind_fields widths
kind_unknown k legs z =
    let At : ℕ → Type 0 = λ i. record_length i legs ≡ 0 in
    kind_out k (λ q. let y : At 1 = rw q at z in omega arith) (λ q. let y : At 2 = rw q at z in omega arith) (λ q. let y : At 3 = rw q at z in omega arith)
    (λ q. let y : At 4 = rw q at z in omega arith) (λ q. let y : At 5 = rw q at z in omega arith) (λ q. let y : At 6 = rw q at z in omega arith)
    (λ q. let y : At 7 = rw q at z in omega arith)

module _ (s : List ℕ) (some : 0 < length s) where
  next_unknown : eqb (front_length s) 0 ≡ true → next_length s ≡ 1
  unfolding front_of length_by_front
  next_unknown e = rw (ne_eqb (length s) 0 (λ z. omega arith), e) refl

  next_whole : eqb (front_length s) 0 ≡ false → leb (front_length s) (length s) ≡ true → next_length s ≡ front_length s
  unfolding front_of length_by_front
  next_whole e f = rw (ne_eqb (length s) 0 (λ z. omega arith), e, f) refl

  next_cut : eqb (front_length s) 0 ≡ false → leb (front_length s) (length s) ≡ false → next_length s ≡ length s
  unfolding front_of length_by_front
  next_cut e f = rw (ne_eqb (length s) 0 (λ z. omega arith), e, f) refl

  first_byte : (m : ℕ) → 1 ≤ m → m ≤ length s → get_or (take m s) 0 0 ≡ get_or s 0 0
  first_byte m h fits =
      let l = length-take-le m s fits in
      sym (get_or-append (take m s) (drop m s) 0 0 (omega arith)) ∙ ap (λ x. get_or x 0 0) (take-append-drop m s)

  second_byte : (m : ℕ) → 2 ≤ m → m ≤ length s → get_or (take m s) 1 0 ≡ get_or s 1 0
  second_byte m h fits =
      let l = length-take-le m s fits in
      sym (get_or-append (take m s) (drop m s) 0 1 (omega arith)) ∙ ap (λ x. get_or x 1 0) (take-append-drop m s)

  -- Of no kind: its kind is out of its range.
  unknown_at_fault : (n : ℕ) → front_length s ≡ 0 → is_none (fault_of n (take 1 s)) ≡ false
  unfolding fault_in fields_in verdict_of number_at
  unknown_at_fault n z =
      let same = first_byte 1 (omega arith) (omega arith) in
      let l = length-take-le 1 s (omega arith) in
      rw (le-ltb (length (take 1 s)) 1 (omega arith), same, kind_unknown (get_or s 0 0) (get_or s 1 0) z) refl

  module _ (n : ℕ) (few : members_sound n ≡ true) where
    abbrev Exactly : List ℕ → Type 0
    Exactly bytes = is_sound (read_of n bytes) ≡ is_none (fault_of n bytes)

    no_surplus : (bytes : List ℕ) → length bytes ≤ front_length bytes → Exactly bytes
    no_surplus bytes h = record_exact n bytes few ∙ rw (le-leb (length bytes) (front_length bytes) h) (and_true (is_none (fault_of n bytes)))

    unknown : eqb (front_length s) 0 ≡ true → Exactly (take 1 s)
    unknown e = let bad = unknown_at_fault n (eqb-true (front_length s) 0 e) in record_exact n (take 1 s) few ∙ rw bad refl

    whole : eqb (front_length s) 0 ≡ false → leb (front_length s) (length s) ≡ true → Exactly (take (front_length s) s)
    whole e f =
        let two = two_at_least s (eqb-false (front_length s) 0 e) in
        let fits = leb-true (front_length s) (length s) f in
        let same : front_length (take (front_length s) s) ≡ front_length s = rw (first_byte (front_length s) (omega arith) fits, second_byte (front_length s) two fits) refl in
        no_surplus (take (front_length s) s) (omega (arith, same, length-take-le (front_length s) s fits))

    cut : leb (front_length s) (length s) ≡ false → Exactly (take (length s) s)
    cut f = let longer = leb-false (front_length s) (length s) f in rw (take_all (length s) s (omega arith)) (no_surplus s (omega arith))

    pub next_exact : Exactly (take (next_length s) s)
    next_exact =
        true_or (eqb (front_length s) 0) (λ e. rw (next_unknown e) (unknown e))
        (λ e. true_or (leb (front_length s) (length s)) (λ f. rw (next_whole e f) (whole e f)) (λ f. rw (next_cut e f) (cut f)))

-- The next record stops the journal exactly if a field of it is at fault.
pub stops_at_fault : (t : Tables) (s : List ℕ) → unsound t ≡ false → members_sound (members t) ≡ true → 0 < length s
    → stops (apply_spec t (take (next_length s) s)).answer ≡ not (is_none (fault_of (members t) (take (next_length s) s)))
stops_at_fault t s sound few some = stops_exactly t (take (next_length s) s) sound ∙ ap not (next_exact s some (members t) few)
