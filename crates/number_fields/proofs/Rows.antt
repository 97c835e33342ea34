-- The numbers of an event put in a row. Assumes nothing.
use Prim.Native.Nat.{ℕ, ◌+◌, ◌*◌, ◌≤◌}
use mathlib.Core.List.{List, [], ◌∷◌, ◌++◌, flat_map, append-nil}
use mathlib.Core.Path.{◌≡◌, refl, sym, ◌∙◌}
use native.Mathlib.Nat.{add-zero}
use native.Mathlib.Omega.{arith}
use borrow.Author.Tests.{eq-eqb}
use lib.ListN.{length, take, length-append, take-append-drop}
use lib.Seq.{length-take-le}
use Rattle.std.specs.Prelude.{Ok}
use Rattle.arith.specs.Lists.{over}
use Rattle.arith.proofs.Appends.{flat_length}
use Rattle.arith.proofs.Beside.{over_then}
use Rattle.rules.specs.declared.event.Event.{Event}
use Rattle.rules.specs.declared.event.Leg.{Leg}
use Rattle.rules.specs.Fields.{proposal_kind, kind_fields}
use Rattle.rules.specs.Ranges.{most_legs}
use Rattle.rules.specs.Records.{kind_number, event_numbers, leg_numbers, numbers_of}
use Rattle.record_kinds.specs.Numbers.{leg_count}
use Rattle.record_kinds.proofs.EachKind.{described, legs_or_none}
use Rattle.codec.proofs.Trips as codec
use Rattle.number_fields.specs.RecordFields.{record_fields, first_leg_field, with_numbers}

over_none : (a : ℕ) (row : List ℕ) → over a [] row ≡ row
unfolding over
over_none a row = rw add-zero (take-append-drop a row)

-- ---- an event with as many legs beside it as it says
module _ (e : Event) (legs : List Leg) (counted : length legs ≡ leg_count e) where
  pub numbers_joined : numbers_of e legs ≡ kind_number e ∷ event_numbers e ++ flat_map leg_numbers legs
  unfolding numbers_of flat_map
  numbers_joined =
      legs_or_none e (λ four one. rw (eq-eqb (kind_number e) proposal_kind four) refl)
      (λ no none. rw (no, sym (codec.none legs (counted ∙ none))) refl)

  numbers_count : 1 + length (kind_fields (kind_number e)) + 3 * leg_count e ≡ length (numbers_of e legs)
  numbers_count =
      rw (numbers_joined, length-append (event_numbers e) (flat_map leg_numbers legs), (described e).counted, flat_length 3 leg_numbers (λ g. refl) legs, counted) (omega arith)

  pub most_numbers_lem : leg_count e ≤ most_legs → length (numbers_of e legs) ≤ record_fields
  most_numbers_lem few =
      legs_or_none e (λ four one. omega (arith, numbers_count, (described e).counted, one, few)) (λ no none. omega (arith, numbers_count, (described e).few, none))

  -- The event's own numbers, then its legs'.
  put_joined : (row put after : List ℕ) → record_fields ≤ length row → put ≡ over 0 (kind_number e ∷ event_numbers e) row
      → after ≡ over first_leg_field (flat_map leg_numbers legs) put → record { answer = Ok (1 + length (kind_fields (kind_number e)) + 3 * leg_count e); after = after } ≡ with_numbers e legs row
  unfolding flat_map
  put_joined row put after h p q =
      let whole : after ≡ over 0 (numbers_of e legs) row =
      rw numbers_joined (legs_or_none e
      (λ four one. over_then first_leg_field (kind_number e ∷ event_numbers e) (flat_map leg_numbers legs) row put after p q (omega (arith, one)) (omega arith))
      (λ no none. alone (kind_number e ∷ event_numbers e) put after (sym (codec.none legs (counted ∙ none))) p q)) in
      rw (whole, numbers_count) refl
    where
      alone : (numbers put after : List ℕ) → legs ≡ [] → put ≡ over 0 numbers row → after ≡ over first_leg_field (flat_map leg_numbers legs) put
          → after ≡ over 0 (numbers ++ flat_map leg_numbers legs) row
      alone numbers put after n p q = rw (n, append-nil numbers) (rw n at q ∙ over_none first_leg_field put ∙ p)

-- The same of the numbers that calls answered.
pub put_rows : {k n : ℕ} (e : Event) (l : List Leg) (row put after : List ℕ) → k ≡ leg_count e → n ≡ length (kind_fields (kind_number e)) → record_fields ≤ length row → leg_count e ≤ length l
    → put ≡ over 0 (kind_number e ∷ event_numbers e) row → after ≡ over first_leg_field (flat_map leg_numbers (take k l)) put
    → record { answer = Ok (1 + n + 3 * k); after = after } ≡ with_numbers e (take (leg_count e) l) row
put_rows e l row put after count fields h many p q =
    rw (count, fields) (put_joined e (take (leg_count e) l) (length-take-le (leg_count e) l many) row put after h p (rw count at q))
