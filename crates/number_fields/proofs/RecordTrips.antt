-- Events to numbers and back, and records read to a row and written from it. Assumes nothing.
use Prim.Native.Nat.{ℕ, ◌+◌, ◌≤◌, ◌<◌}
use mathlib.Core.Bool.{true, not, ◌||◌}
use mathlib.Core.List.{List, [], ◌∷◌, ◌++◌, flat_map, append_assoc}
use mathlib.Core.Path.{◌≡◌, refl, sym, ap, ◌∙◌}
use native.Mathlib.Nat.{add-zero}
use native.Mathlib.Numerals.{add-one}
use native.Mathlib.Omega.{arith}
use borrow.Author.Tests.{eq-eqb, le-leb}
use lib.ListN.{length, get_or, take, drop, take-append-drop, get_or-append}
use lib.Seq.{drop-cons, drop-drop, get_or-append-add, take-append_seam}
use lib.Dec.{T, leb, ltb}
use Rattle.std.specs.Prelude.{Option, Some, None, Ok}
use Rattle.arith.specs.Lists.{from, every, over}
use Rattle.arith.proofs.Alls.{all_always}
use Rattle.arith.proofs.Overs.{over_length}
use Rattle.arith.proofs.Tests.{le_or_lt}
use Rattle.arith.proofs.Writes.{over_front}
use Rattle.rules.specs.declared.event.Event.{Event}
use Rattle.rules.specs.declared.event.Leg.{Leg}
use Rattle.rules.specs.Answers.{Outcome, reply_of}
use Rattle.rules.specs.Fields.{proposal_kind, has_legs, kind_fields}
use Rattle.rules.specs.Ranges.{most_legs}
use Rattle.rules.specs.Records.{kind_number, event_numbers, leg_numbers, numbers_of, event_by_kind, leg_in, write_spec, legs_of, read_of}
use Rattle.big_endian.proofs.Numbers.{all_back, all_again}
use Rattle.record_kinds.specs.Numbers.{leg_count}
use Rattle.record_kinds.proofs.EachKind.{described, legs_or_none}
use Rattle.codec.specs.Legs.{in_places, held_legs}
use Rattle.codec.proofs.PlacedLegs.{placed}
use Rattle.codec.proofs.Fields as fields
use Rattle.codec.proofs.Written.{sound_event}
use Rattle.codec.proofs.Trips as codec
use Rattle.number_fields.specs.RecordFields.{record_fields, kind_field, proposal_legs_field, leg_field, row_event, event_in, first_legs, legs_in, read_fields, write_fields}
use Rattle.number_fields.specs.Trips.{NumbersGiveEvent, EventGivesNumbers, ReadIsWritten, WrittenIsRead}
use Rattle.number_fields.proofs.Given.{Given, given, legs_given}
use Rattle.number_fields.proofs.Rows.{numbers_joined, most_numbers_lem}
use Rattle.number_fields.proofs.RecordOutcomes.{length_legs, read_short, read_by, few_read, legs_read, write_short, write_by}

-- ---- an event's numbers give the event
leg_back : (p q : List ℕ) (i : ℕ) → i ≡ length p → (g : Leg) → Unit {0} → leg_in (p ++ (leg_numbers g ++ q)) i ≡ g
leg_back p q i e g t =
    let three = leg_numbers g ++ q in
    let order : get_or (p ++ three) i 0 ≡ g.order = rw (e, ← add-zero (length p)) (get_or-append-add p three 0 0) in
    let lots : get_or (p ++ three) (i + 1) 0 ≡ g.lots.0 = rw e (get_or-append-add p three 1 0) in
    let price : get_or (p ++ three) (i + 2) 0 ≡ g.price.0 = rw e (get_or-append-add p three 2 0) in
    λ j. record { order = order j; lots = record { 0 = lots j }; price = record { 0 = price j } }

legs_back : (kind k : ℕ) (legs : List Leg) (rest : List ℕ) → length legs ≡ k → first_legs (kind ∷ k ∷ flat_map leg_numbers legs ++ rest) k ≡ legs
unfolding first_legs
legs_back kind k legs rest l =
    let any = all_always (λ g. Unit {0}) legs (λ g. tt) in
    rw l at (all_back leg_numbers 3 (λ g. refl) leg_in (λ g. Unit {0}) leg_back legs (kind ∷ k ∷ []) rest 2 refl any)

one_number : (l : List ℕ) → length l ≡ 1 → l ≡ get_or l 0 0 ∷ []
one_number [] h = absurd (omega arith)
one_number (x ∷ []) h = refl
one_number (x ∷ y ∷ l) h = absurd (omega arith)

module _ (e : Event) (few : leg_count e ≤ most_legs) (f rest : List ℕ) (shape : f ≡ kind_number e ∷ event_numbers e ++ rest) where
  row_kind : get_or f kind_field 0 ≡ kind_number e
  row_kind = rw shape refl

  row_count : kind_number e ≡ proposal_kind → length (event_numbers e) ≡ 1 → get_or f proposal_legs_field 0 ≡ leg_count e
  row_count four one = rw (shape, eq-eqb (kind_number e) proposal_kind four) (get_or-append (event_numbers e) rest 0 0 (omega (arith, one)))

  row_gives : event_in f ≡ Some e
  unfolding row_event
  row_gives =
      let event : event_by_kind (kind_number e) f ≡ Some e = rw shape ((described e).back rest) in
      let test : not (has_legs (kind_number e)) || leb (get_or f proposal_legs_field 0) most_legs ≡ true =
      legs_or_none e (λ four one. rw (eq-eqb (kind_number e) proposal_kind four) (le-leb (get_or f proposal_legs_field 0) most_legs (rw (row_count four one) few))) (λ no none. rw no refl) in
      rw (row_kind, test) event

  row_legs : (legs : List Leg) (past : List ℕ) → length legs ≡ leg_count e → rest ≡ flat_map leg_numbers legs ++ past → legs_in f ≡ legs
  unfolding legs_in
  row_legs legs past l r =
      legs_or_none e
      (λ four one. let shaped : f ≡ kind_number e ∷ leg_count e ∷ flat_map leg_numbers legs ++ past =
      shape ∙ (ap (λ x. kind_number e ∷ x ++ rest) (numbers four one) ∙ ap (λ x. kind_number e ∷ leg_count e ∷ x) r) in
      rw (row_kind, eq-eqb (kind_number e) proposal_kind four, row_count four one) (ap (λ x. first_legs x (leg_count e)) shaped ∙ legs_back (kind_number e) (leg_count e) legs past l))
      (λ no none. rw (row_kind, no) (codec.none legs (l ∙ none)))
    where
      numbers : kind_number e ≡ proposal_kind → length (event_numbers e) ≡ 1 → event_numbers e ≡ leg_count e ∷ []
      numbers four one = one_number (event_numbers e) one ∙ ap (λ x. x ∷ []) (let k : leg_count e ≡ get_or (event_numbers e) 0 0 = rw (eq-eqb (kind_number e) proposal_kind four) refl in sym k)

pub numbers_give_event : NumbersGiveEvent
numbers_give_event e legs rest l m =
    let past = flat_map leg_numbers legs ++ rest in
    let shape : numbers_of e legs ++ rest ≡ kind_number e ∷ event_numbers e ++ past =
    rw (numbers_joined e legs l) (ap (λ x. kind_number e ∷ x) (append_assoc (event_numbers e) (flat_map leg_numbers legs) rest)) in
    (row_gives e m _ past shape, row_legs e m _ past shape legs rest l refl)

-- ---- a row that gives an event begins with its numbers
module _ (f : List ℕ) where
  number_again : (i : ℕ) → i < length f → get_or f i 0 ∷ drop (i + 1) f ≡ drop i f
  number_again i h = rw add-one (sym (drop-cons f i 0 h))

  leg_again : (i : ℕ) → i + 3 ≤ length f → leg_numbers (leg_in f i) ++ drop (i + 3) f ≡ drop i f
  leg_again i h =
      let second : i + 1 + 1 ≡ i + 2 = omega arith in
      let third : i + 2 + 1 ≡ i + 3 = omega arith in
      rw (← third, number_again (i + 2) (omega arith), ← second, number_again (i + 1) (omega arith)) (number_again i (omega arith))

  front_again : {k : ℕ} {numbers : List ℕ} (n : ℕ) → k ≡ get_or f kind_field 0 → numbers ≡ take n (drop 1 f) → 0 < length f → k ∷ numbers ++ drop (1 + n) f ≡ f
  front_again n k e h = rw (k, e, ← drop-drop n 1 f, take-append-drop n (drop 1 f)) (number_again 0 h)

  module _ (e : Event) (h : record_fields ≤ length f) (g : Given f e) where
    -- What stands past the event's own numbers.
    past_own : List ℕ
    past_own = drop (1 + length (kind_fields (kind_number e))) f

    legs_again : (past : List ℕ) × (flat_map leg_numbers (legs_in f) ++ past ≡ past_own)
    unfolding past_own first_legs flat_map from
    legs_again =
        legs_or_none e
        (λ four one. let fields : length (kind_fields (kind_number e)) ≡ 1 = sym (described e).counted ∙ one in
        (drop (leg_field (leg_count e)) f, rw (legs_given f e g, fields) (all_again leg_numbers 3 leg_in f leg_again (leg_count e) 2 (omega (arith, g.few)))))
        (λ no none. (drop (1 + length (kind_fields (kind_number e))) f, rw (legs_given f e g, none) refl))

    again : take (length (numbers_of e (legs_in f))) f ≡ numbers_of e (legs_in f)
    unfolding past_own
    again =
        let legs = legs_in f in
        let counted : length legs ≡ leg_count e = ap length (legs_given f e g) ∙ length_legs f (leg_count e) in
        let past = legs_again.0 in
        let whole : numbers_of e legs ++ past ≡ f =
        rw (numbers_joined e legs counted, append_assoc (event_numbers e) (flat_map leg_numbers legs) past, legs_again.1) (front_again (length (kind_fields (kind_number e))) g.kind g.numbers (omega arith)) in
        ap (take (length (numbers_of e legs))) (sym whole) ∙ take-append_seam (numbers_of e legs) past

pub event_gives_numbers : EventGivesNumbers
event_gives_numbers e row h g = again row e h (given row e h g)

-- ---- what an accepted call tells
-- An accepted outcome is not another.
pub refused : {P : Type 0} {k : ℕ} {x : List ℕ} {o : Outcome (List ℕ)} → record { answer = Ok k; after = x } ≡ o → (0 ≡ (reply_of o.answer).number → ⊥) → P
refused w differs = absurd (differs (ap (λ (z : Outcome (List ℕ)). (reply_of z.answer).number) w))

record ReadTo (n : ℕ) (s row after : List ℕ) : Type 0 where
  event : Event
  long : record_fields ≤ length row
  said : read_of n s ≡ Some event
  put : after ≡ over 0 (numbers_of event (legs_of s)) row

read_to : (n : ℕ) (s row : List ℕ) (k : ℕ) (after : List ℕ) → record { answer = Ok k; after = after } ≡ read_fields n s row → ReadTo n s row after
read_to n s row k after w =
    le_or_lt record_fields (length row) (λ h. go h (read_of n s) refl) (λ h. refused (w ∙ sym (read_short n s row h)) (λ z. omega arith))
  where
    go : record_fields ≤ length row → (r : Option Event) → r ≡ read_of n s → ReadTo n s row after
    go h (Some e) q = record { event = e; long = h; said = sym q; put = ap (λ o. o.after) (w ∙ read_by n s row q h) }
    go h None q = refused (w ∙ read_by n s row q h) (λ z. omega arith)

record WrittenFrom (n : ℕ) (row out : List ℕ) (o : Outcome (List ℕ)) : Type 0 where
  event : Event
  long : record_fields ≤ length row
  says : event_in row ≡ Some event
  given : Given row event
  wrote : o ≡ write_spec n event (legs_in row) out

written_from : (n : ℕ) (row out : List ℕ) (k : ℕ) (after : List ℕ) → record { answer = Ok k; after = after } ≡ write_fields n row out
    → WrittenFrom n row out (record { answer = Ok k; after = after })
written_from n row out k after w =
    le_or_lt record_fields (length row) (λ h. go h (event_in row) refl) (λ h. refused (w ∙ sym (write_short n row out h)) (λ z. omega arith))
  where
    go : record_fields ≤ length row → (r : Option Event) → r ≡ event_in row → WrittenFrom n row out (record { answer = Ok k; after = after })
    go h (Some e) q = record { event = e; long = h; says = sym q; given = given row e h (sym q); wrote = w ∙ write_by n row out q h }
    go h None q = refused (w ∙ write_by n row out q h) (λ z. omega arith)

-- ---- the promises
read_then_written : (n : ℕ) (s row out after : List ℕ) (e : Event) → T (every (λ b. ltb b 256) s) → length s ≤ length out → record_fields ≤ length row
    → read_of n s ≡ Some e → after ≡ over 0 (numbers_of e (legs_of s)) row → write_fields n after out ≡ record { answer = Ok (length s); after = over 0 s out }
read_then_written n s row out after e b h long said put =
    let legs = legs_of s in
    let few = few_read n s row refl said in
    let rows = legs_read n s row refl said in
    let known = fields.said n s said in
    let counted : length legs ≡ leg_count e = (sound_event n known.0 legs e known.2).beside in
    let numbers = numbers_of e legs in
    let rest = drop (length numbers) row in
    let back = numbers_give_event e legs rest counted few in
    let shape : after ≡ numbers ++ rest = put ∙ over_front numbers row in
    let most = most_numbers_lem e legs counted few in
    let as_long : length after ≡ length row = ap length put ∙ over_length 0 numbers row (omega arith) in
    let same : legs_in after ≡ legs = ap legs_in shape ∙ back.1 in
    write_by n after out (sym (ap event_in shape ∙ back.0)) (omega arith) ∙ rw (same, ← rows) (codec.read_is_written n s e out b said h)

pub read_is_written : ReadIsWritten
read_is_written n s row out k after b h w =
    let r = read_to n s row k after w in
    read_then_written n s row out after r.event b h r.long r.said r.put

-- a row that its own numbers are put in
pub over_self : (xs l : List ℕ) → take (length xs) l ≡ xs → over 0 xs l ≡ l
over_self xs l e = over_front xs l ∙ (ap (λ t. t ++ drop (length xs) l) (sym e) ∙ take-append-drop (length xs) l)

pub written_is_read : WrittenIsRead
written_is_read n row out other k after room w =
    let x = written_from n row out k after w in
    let e = x.event in
    let legs = legs_in row in
    let counted : length legs ≡ leg_count e = ap length (legs_given row e x.given) ∙ length_legs row (leg_count e) in
    let rows : take (leg_count e) (in_places legs) ≡ legs = rw counted at (placed legs) in
    let s = take k after in
    let read = codec.written_is_read n e (in_places legs) out k after (rw rows x.wrote) in
    let same : legs_of s ≡ legs = sym (legs_read n s other refl read.0) ∙ (read.1 ∙ rows) in
    (e, (x.says, (again row e x.long x.given, read_by n s other (sym read.0) room ∙ rw same refl)))
