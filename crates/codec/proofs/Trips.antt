-- Records written and read back, and read and written again. Assumes nothing.
use Prim.Native.Nat.{ℕ, ◌+◌, ◌≤◌, ◌<◌}
use mathlib.Core.Bool.{true, cond, ◌&&◌}
use mathlib.Core.List.{List, [], ◌∷◌, ◌++◌, flat_map, append-nil}
use mathlib.Core.Path.{◌≡◌, refl, sym, ap, subst, ◌∙◌}
use native.Mathlib.Omega.{arith}
use borrow.Author.Tests.{lt-leb, le-leb, le-ltb, ne_eqb}
use lib.Dec.{T, eqb, leb, ltb}
use lib.ListN.{length, get_or, take, drop, length-append, get_or-append}
use Rattle.std.specs.Prelude.{Some}
use Rattle.arith.specs.Lists.{All, every, over}
use Rattle.arith.proofs.Alls.{every_all}
use Rattle.arith.proofs.Beside.{take_over}
use Rattle.arith.proofs.Tests.{same_or, and_left, and_right, and_false}
use Rattle.rules.specs.declared.refusal.Refusal.TheVariants.{RecordUnsound}
use Rattle.rules.specs.declared.event.Event.TheVariants.{Proposal}
use Rattle.rules.specs.declared.event.Event.{Event}
use Rattle.rules.specs.declared.event.Leg.{Leg}
use Rattle.rules.specs.Ranges.{most_price, most_lots, least_legs, most_legs}
use Rattle.rules.specs.Fields.{has_legs, widths, kind_fields, leg_fields, numbers_at, bytes_by}
use Rattle.rules.specs.Header.{members_sound}
use Rattle.rules.specs.Records.{leg_place, record_length, front_length, leg_sound, event_sound, kind_number, event_numbers, leg_numbers, leg_in}
use Rattle.rules.specs.Records.{leg_bytes, field_bytes, bytes_of, write_spec, record_numbers, fields_of, leg_at, legs_of, read_of, front_of}
use Rattle.rules.proofs.Writing.{written}
use Rattle.big_endian.proofs.Numbers.{bytes_small, all_back, u8_first, none_past, all_again}
use Rattle.record_kinds.specs.Numbers.{leg_count}
use Rattle.record_kinds.proofs.EachKind.{described}
use Rattle.codec.specs.Fits.{Fits, EventFits}
use Rattle.codec.specs.Trips.{WrittenIsRead, ReadIsWritten, SoundStandsWhole}
use Rattle.codec.proofs.FieldBytes.{numbers_back, numbers_again}
use Rattle.codec.proofs.Fields.{Says, says, said, length_legless, fields_of_kind_lem, by_numbers}
use Rattle.codec.proofs.PlacedLegs.{is_proposal, none_beside, says_proposal, legs_to_lem, places_said}
use Rattle.codec.proofs.Written.{leg_wide, first_leg, record_sized, length_record, some_bytes, two_bytes, bound, sound_event, write_whole}

-- ---- written, then read
first_byte : (e : Event) (legs : List Leg) → kind_number e ≡ get_or (bytes_of e legs) 0 0
unfolding bytes_of
first_byte e legs = refl

legs_byte : (k : ℕ) (legs : List Leg) → k ≡ get_or (bytes_of (Proposal k) legs) 1 0
unfolding bytes_of field_bytes
legs_byte k legs = refl

-- The second byte counts only where a record has legs.
second_byte : (e : Event) (legs : List Leg) → record_length (kind_number e) (leg_count e) ≡ record_length (kind_number e) (get_or (bytes_of e legs) 1 0)
second_byte e legs =
    same_or (kind_number e) 4 (λ h. ap (record_length (kind_number e)) (subst (λ x. leg_count x ≡ get_or (bytes_of x legs) 1 0) (sym (is_proposal e h)) (legs_byte (leg_count e) legs)))
    (length_legless (kind_number e) (leg_count e) (get_or (bytes_of e legs) 1 0))

numbers_written : (e : Event) (legs : List Leg) → EventFits e → record_numbers (kind_number e) (bytes_of e legs) ≡ kind_number e ∷ event_numbers e
unfolding record_numbers bytes_of field_bytes
numbers_written e legs f = ap (λ x. kind_number e ∷ x) (numbers_back (kind_fields (kind_number e)) (event_numbers e) (kind_number e ∷ []) (cond (has_legs (kind_number e)) (flat_map leg_bytes legs) []) 1 f refl)

fields_back : (e : Event) (legs : List Leg) → EventFits e → length legs ≡ leg_count e → fields_of (bytes_of e legs) ≡ Some e
fields_back e legs f l =
    let s = bytes_of e legs in
    let sized : length s ≡ record_length (kind_number e) (get_or s 1 0) = length_record e legs l ∙ second_byte e legs in
    let back = rw (append-nil (event_numbers e)) at ((described e).back []) in
    sym (fields_of_kind_lem s (first_byte e legs) refl refl sized)
    ∙ (by_numbers (kind_number e) s (kind_number e ∷ event_numbers e) (numbers_written e legs f) ∙ back)

leg_back : (p q : List ℕ) (i : ℕ) → i ≡ length p → (g : Leg) → leg_sound g ≡ true → leg_at (p ++ (leg_bytes g ++ q)) i ≡ g
unfolding Fits
leg_back p q i e g t =
    let number : g.order ≤ 4294967295 = bound g.order 4294967295 (λ h. sym (simp (le-ltb g.order 4294967296 h) at t)) in
    let lots : g.lots.0 ≤ most_lots = bound g.lots.0 most_lots (λ h. sym (simp (lt-leb g.lots.0 most_lots h, and_false) at t)) in
    let price : g.price.0 ≤ most_price = bound g.price.0 most_price (λ h. sym (simp (lt-leb g.price.0 most_price h, and_false) at t)) in
    ap (λ f. leg_in f 0) (numbers_back leg_fields (leg_numbers g) p q i (omega arith, (omega arith, (omega arith, tt))) e)

pub none : (legs : List Leg) → length legs ≡ 0 → [] ≡ legs
none [] l = refl
none (g ∷ legs) l = absurd (omega arith)

proposal_legs : (n k : ℕ) (legs : List Leg) → event_sound n (Proposal k) legs ≡ true → every leg_sound legs ≡ true
unfolding event_sound
proposal_legs n k legs t = and_right (leb least_legs k && leb k most_legs && eqb (length legs) k) (every leg_sound legs) t

legs_proposed : (n k : ℕ) (legs : List Leg) → event_sound n (Proposal k) legs ≡ true → length legs ≡ k → legs_of (bytes_of (Proposal k) legs) ≡ legs
unfolding legs_of bytes_of field_bytes
legs_proposed n k legs t l =
    let good : All (λ g. leg_sound g ≡ true) legs = every_all leg_sound legs (proposal_legs n k legs t) in
    rw (append-nil (flat_map leg_bytes legs), l) at (all_back leg_bytes 10 leg_wide leg_at (λ g. leg_sound g ≡ true) leg_back legs (4 ∷ k ∷ []) [] 2 refl good)

no_legs_written : (e : Event) (legs : List Leg) → (kind_number e ≡ 4 → ⊥) → [] ≡ legs_of (bytes_of e legs)
unfolding legs_of bytes_of
no_legs_written e legs h = rw (ne_eqb (kind_number e) 4 h) refl

legs_back : (n : ℕ) (e : Event) (legs : List Leg) → event_sound n e legs ≡ true → length legs ≡ leg_count e → legs_of (bytes_of e legs) ≡ legs
legs_back n e legs t l =
    same_or (kind_number e) 4
    (λ h. let p = is_proposal e h in subst (λ x. legs_of (bytes_of x legs) ≡ legs) (sym p) (legs_proposed n (leg_count e) legs (subst (λ x. event_sound n x legs ≡ true) p t) l))
    (λ h. sym (no_legs_written e legs h) ∙ none legs (l ∙ none_beside e h))

-- A sound event's record says the event.
read_written : (n : ℕ) (e : Event) (legs : List Leg) → members_sound n ≡ true → event_sound n e legs ≡ true → read_of n (bytes_of e legs) ≡ Some e
unfolding read_of
read_written n e legs m t =
    let known = sound_event n m legs e t in
    rw (m, fields_back e legs known.fits known.beside, legs_back n e legs t known.beside, t) refl

-- A sound event's record has the event's legs.
legs_written : (n : ℕ) (e : Event) (legs : List Leg) → members_sound n ≡ true → event_sound n e legs ≡ true → legs_of (bytes_of e legs) ≡ legs
legs_written n e legs m t = legs_back n e legs t (sound_event n m legs e t).beside

-- ---- read, then written
module _ (s : List ℕ) (small : (i : ℕ) → get_or s i 0 < 256) where
  leg_again : (i : ℕ) → i + 10 ≤ length s → leg_bytes (leg_at s i) ++ drop (i + 10) s ≡ drop i s
  unfolding numbers_at widths
  leg_again i h = numbers_again s small leg_fields i h

  -- the kind, the fields, and what is past them
  kind_again : (k : ℕ) → get_or s 0 0 ≡ k → 1 + widths (kind_fields k) ≤ length s
      → k ∷ (bytes_by (kind_fields k) (numbers_at s 1 (kind_fields k)) ++ drop (1 + widths (kind_fields k)) s) ≡ s
  kind_again k e h = ap (λ x. k ∷ x) (numbers_again s small (kind_fields k) 1 h) ∙ u8_first s small k e (omega arith)

  proposed_again : get_or s 0 0 ≡ 4 → length s ≡ leg_place (get_or s 1 0) → flat_map leg_bytes (legs_of s) ≡ drop 2 s
  proposed_again k l =
      sym (append-nil (flat_map leg_bytes (legs_of s)))
      ∙ rw (legs_to_lem s k, ← none_past s small (leg_place (get_or s 1 0)) l) (all_again leg_bytes 10 leg_at s leg_again (get_or s 1 0) 2 (omega arith))

  -- The legs stand past the fields, to the end of the record.
  legs_again : (e : Event) → Says s e → cond (has_legs (kind_number e)) (flat_map leg_bytes (legs_of s)) [] ≡ drop (1 + widths (kind_fields (kind_number e))) s
  legs_again e y =
      same_or (kind_number e) 4 (λ h. let p = says_proposal s e y h in rw (h, first_leg) (proposed_again p.0 p.1))
      (λ h. let sized = rw (ne_eqb (kind_number e) 4 h) at (y.sized ∙ record_sized e (get_or s 1 0)) in rw (ne_eqb (kind_number e) 4 h) (sym (none_past s small (1 + widths (kind_fields (kind_number e))) (omega arith))))

  record_again : (e : Event) → Says s e → bytes_of e (legs_of s) ≡ s
  unfolding bytes_of field_bytes
  record_again e y =
      let k = kind_number e in
      let inside : 1 + widths (kind_fields k) ≤ length s = omega (arith, y.sized, some_bytes e (get_or s 1 0)) in
      rw (y.numbers, legs_again e y) (kind_again k (sym y.kind) inside)

-- A record that says an event is the event's record.
written_again : (n : ℕ) (s : List ℕ) (e : Event) → T (every (λ b. ltb b 256) s) → read_of n s ≡ Some e → bytes_of e (legs_of s) ≡ s
written_again n s e b h = record_again s (bytes_small s b) e (says s e (said n s h).1)

-- ---- the promises
pub written_is_read : WrittenIsRead
unfolding write_spec
written_is_read n e l out k after w =
    let legs = take (leg_count e) l in
    let bytes = bytes_of e legs in
    let both = members_sound n && event_sound n e legs in
    let reply_of = written RecordUnsound k (length bytes) out after (over 0 bytes out) both (ltb (length out) (length bytes)) w in
    let few = and_left (members_sound n) (event_sound n e legs) reply_of.0 in
    let sound = and_right (members_sound n) (event_sound n e legs) reply_of.0 in
    let whole : take k after ≡ bytes = rw (reply_of.1, reply_of.2) (take_over bytes out) in
    let read = read_written n e legs few sound in
    let back = legs_written n e legs few sound in
    rw whole (read, places_said n bytes e (said n bytes read).1 (rw back sound) ∙ back)

pub read_is_written : ReadIsWritten
read_is_written n s e out b r h =
    let known = said n s r in
    let again = written_again n s e b r in
    rw (places_said n s e known.1 known.2)
    (sym (write_whole n e (legs_of s) out known.0 known.2 (length s) (over 0 s out) (ap length (sym again)) (rw again h) (rw again refl)))

-- ---- a record at the front of a stream
front_length_lem : (s rest : List ℕ) (e : Event) → Says s e → (0 < length s) × (front_length (s ++ rest) ≡ length s)
front_length_lem s rest e y =
    let long : 1 < length s = omega (arith, y.sized, two_bytes e (get_or s 1 0)) in
    (omega arith, rw (get_or-append s rest 0 0 (omega arith), get_or-append s rest 0 1 long, ← y.kind) (sym y.sized))

pub sound_stands_whole : SoundStandsWhole
unfolding front_of
sound_stands_whole n s rest e r =
    let w = front_length_lem s rest e (says s e (said n s r).1) in
    let some : 0 < length s = w.0 in
    let all : length (s ++ rest) ≡ length s + length rest = length-append s rest in
    rw (ne_eqb (length (s ++ rest)) 0 (λ z. omega arith), w.1, ne_eqb (length s) 0 (λ z. omega arith), le-leb (length s) (length (s ++ rest)) (omega arith)) refl
