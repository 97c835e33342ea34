-- A record is sound exactly if no field is at fault and no bytes are past its fields. Assumes nothing.
use Prim.Native.Nat.{ℕ, zero, suc, ◌+◌, ◌*◌, ◌-◌, ◌≤◌, ◌<◌}
use mathlib.Core.Bool.{Bool, true, false, cond, ◌&&◌, and_assoc}
use mathlib.Core.List.{List, [], ◌∷◌, map}
use mathlib.Core.Path.{◌≡◌, refl, sym, ◌∙◌}
use native.Mathlib.Nat.{zero-add}
use native.Mathlib.Omega.{arith}
use borrow.Author.Tests.{eq-eqb, ne_eqb, le-leb, lt-leb, le-ltb, leb-true, lt-ltb}
use lib.Dec.{eqb, leb, ltb}
use lib.ListN.{length, get_or}
use Rattle.std.specs.Prelude.{Option, Some, None}
use Rattle.arith.specs.Lists.{from, every}
use Rattle.arith.proofs.Columns.{mapped_length}
use Rattle.arith.proofs.Tests.{same_or, le_or_lt, true_or, and_false, and_true, and_left}
use Rattle.rules.specs.declared.event.Event.{Event}
use Rattle.rules.specs.declared.event.Event.TheVariants.{Submit, Cancel, DayLimits, Proposal, Default, CloseOut, CloseOfDay}
use Rattle.rules.specs.declared.event.Leg.{Leg}
use Rattle.rules.specs.Ranges.{most_members, most_price, least_legs, most_legs}
use Rattle.rules.specs.Header.{u16_at, u32_at, members_sound}
use Rattle.rules.specs.Records.{record_length, front_length, time_sound, contract_sound, side_sound, order_kind_sound, price_sound, lots_sound, day_limits_sound, number_sound, leg_sound, leg_at}
use Rattle.rules.specs.Records.{leg_place, submission_of, cancellation_of, new_day_limits_of, close_out_of, record_numbers, fields_by_kind, fields_of as read_fields, legs_of, event_sound, if_sound, read_of}
use Rattle.listing.specs.Exact.{is_sound, RecordExact}
use Rattle.record_kinds.proofs.ByKind.{no_kind}
use Rattle.codec.proofs.FieldBytes.{widths_append}
use Rattle.codec.proofs.Fields.{record_length_holds}
use Rattle.rules.specs.declared.field.Field.TheVariants.{Kind}
use Rattle.rules.specs.Fields.{has_legs, widths, leg_fields, kind_fields, times_over, fields_of_kind, number_at, numbers_at}
use Rattle.listing_words.specs.Fields.{fields_in, range, within, record_shape, is_none, fault_of}
use Rattle.listing.proofs.Faults.{in_ranges, none_is, from_zero, last_before}

-- ---- tests in another order
sound_event : (n : ℕ) (legs : List Leg) (e : Event) → is_sound (if_sound n legs (Some e)) ≡ event_sound n e legs
sound_event n legs e = true_or (event_sound n e legs) (λ h. rw h refl) (λ h. rw h refl)

-- A record of a kind, whose length is m.
of_length : (len m : ℕ) (n : ℕ) (legs : List Leg) (r : Option Event) (ranges : Bool) → is_sound (if_sound n legs r) ≡ ranges
    → is_sound (if_sound n legs (cond (eqb len m) r None)) ≡ leb m len && ranges && leb len m
of_length len m n legs r ranges h =
    same_or len m (λ e. rw (e, eq-eqb m m refl, le-leb m m (omega arith)) (h ∙ sym (and_true ranges)))
    (λ e. rw (ne_eqb len m e)
    (le_or_lt m len (λ k. rw (lt-leb len m (omega arith)) (sym (and_false (leb m len && ranges)))) (λ k. rw (lt-leb m len k) refl)))

-- ---- by kind
below : (v most : ℕ) → ltb v (suc most) ≡ leb v most
below v most = le_or_lt v most (λ k. rw (le-leb v most k, lt-ltb v (suc most) (omega arith)) refl) (λ k. rw (lt-leb v most k, le-ltb v (suc most) (omega arith)) refl)

and_assoc_like : (d o p l : Bool) → (d && o) && (p && l && true) ≡ d && (o && (p && (l && true)))
and_assoc_like d o p l = rw (and_assoc d o (p && l && true), and_assoc p l true) refl

-- The reader tests side and order kind first.
submit_order : (t m c d o p l : Bool) → (d && o) && (t && m && c && p && l && true) ≡ t && (m && (c && (d && (o && (p && (l && true))))))
submit_order true true true d o p l = and_assoc_like d o p l
submit_order true true false d o p l = and_false (d && o)
submit_order true false c d o p l = and_false (d && o)
submit_order false m c d o p l = and_false (d && o)

gated : (g : Bool) (n : ℕ) (legs : List Leg) (e : Event) → is_sound (if_sound n legs (cond g (Some e) None)) ≡ g && event_sound n e legs
gated true n legs e = sound_event n legs e
gated false n legs e = refl

order_range : (v : ℕ) → leb v 4294967295 ≡ ltb v 4294967296
order_range v = sym (below v 4294967295)

-- A low that is at most the high is at most the most that a high may be.
limits_order : (c : Bool) (low high : ℕ) → c && day_limits_sound low high && true ≡ c && (price_sound low && (leb low high && leb high most_price && true))
limits_order false low high = refl
limits_order true low high =
    le_or_lt low high
    (λ h. le_or_lt high most_price (λ k. rw (le-leb low high h, le-leb high most_price k, le-leb low most_price (omega arith)) (simp and_assoc))
    (λ k. rw (lt-leb high most_price k, le-leb low high h, and_false (leb 1 low && true)) (sym (and_false (price_sound low)))))
    (λ h. rw (lt-leb low high h, and_false (leb 1 low)) (sym (and_false (price_sound low))))

leg_order : (o l p rest : Bool) → o && l && p && rest ≡ o && (l && (p && rest))
leg_order o l p rest = simp and_assoc

legs_ranges : (n : ℕ) (s : List ℕ) (k a place : ℕ) → place ≡ leg_place a → in_ranges n s place (times_over k leg_fields) ≡ every leg_sound (map (λ j. leg_at s (leg_place j)) (from a k))
unfolding times_over in_ranges within number_at numbers_at every from
legs_ranges n s zero a place e = refl
legs_ranges n s (suc k) a place e =
    let price = leg_place a + 4 + 2 in
    rw (e, from_zero (u32_at s (leg_place a)), order_range (u32_at s (leg_place a)), legs_ranges n s k (suc a) (price + 4) (omega arith))
    (sym (leg_order (number_sound (u32_at s (leg_place a))) (lots_sound (u16_at s (leg_place a + 4))) (price_sound (u32_at s price))
    (every leg_sound (map (λ j. leg_at s (leg_place j)) (from (suc a) k)))))

leg_widths : (k : ℕ) → widths (times_over k leg_fields) ≡ 10 * k
unfolding widths times_over
leg_widths zero = refl
leg_widths (suc k) = rw (leg_widths k) (omega arith)

-- The widths of a kind's fields are its length.
shape_widths : (kind legs : ℕ) → 0 < length (kind_fields kind) → widths (Kind ∷ fields_of_kind kind legs) ≡ record_length kind legs
unfolding widths fields_of_kind
shape_widths kind legs h =
    rw (record_length_holds kind legs h, widths_append (kind_fields kind) (cond (has_legs kind) (times_over legs leg_fields) []), go (has_legs kind)) (omega arith)
  where
    go : (t : Bool) → widths (cond t (times_over legs leg_fields) []) ≡ cond t (10 * legs) 0
    go true = leg_widths legs
    go false = refl

module _ (n : ℕ) (s : List ℕ) (some : 1 ≤ n) where
  member_range : (m : ℕ) → leb m (n - 1) ≡ ltb m n
  member_range m = last_before m n some

  Ranges : ℕ → Type 0
  Ranges kind = get_or s 0 0 ≡ kind → is_sound (if_sound n (legs_of s) (fields_by_kind (get_or s 0 0) s)) ≡ in_ranges n s 0 (fields_in (record_shape s))

  submit_ranges : Ranges 1
  unfolding Ranges legs_of fields_by_kind fields_in fields_of_kind in_ranges within number_at event_sound
  submit_ranges e =
      rw e
      (simp (from_zero, member_range)
      (gated (side_sound (get_or s 7 0) && order_kind_sound (get_or s 8 0)) n [] (Submit (submission_of (record_numbers 1 s)))
      ∙ submit_order (time_sound (u32_at s 1)) (ltb (get_or s 5 0) n) (contract_sound (get_or s 6 0)) (side_sound (get_or s 7 0)) (order_kind_sound (get_or s 8 0)) (price_sound (u32_at s 9))
      (lots_sound (u16_at s 13))))

  cancel_ranges : Ranges 2
  unfolding Ranges legs_of fields_by_kind fields_in fields_of_kind in_ranges within number_at event_sound
  cancel_ranges e =
      rw e
      (simp (from_zero, member_range, order_range) (sound_event n [] (Cancel (cancellation_of (record_numbers 2 s))) ∙ simp and_assoc))

  limits_ranges : Ranges 3
  unfolding Ranges legs_of fields_by_kind fields_in fields_of_kind in_ranges within number_at event_sound
  limits_ranges e = rw e (simp from_zero (sound_event n [] (DayLimits (new_day_limits_of (record_numbers 3 s))) ∙ limits_order (contract_sound (get_or s 1 0)) (u32_at s 2) (u32_at s 6)))

  proposal_ranges : Ranges 4
  unfolding Ranges legs_of fields_by_kind fields_in fields_of_kind in_ranges within number_at event_sound
  proposal_ranges e =
      let k = get_or s 1 0 in
      let legs = map (λ j. leg_at s (leg_place j)) (from 0 k) in
      rw e
      (rw (legs_ranges n s k 0 2 refl)
      (sound_event n legs (Proposal k)
      ∙ rw (mapped_length (λ j. leg_at s (leg_place j)) 0 k, eq-eqb k k refl) (rw (and_true (leb least_legs k && leb k most_legs)) refl)))

  default_ranges : Ranges 5
  unfolding Ranges legs_of fields_by_kind fields_in fields_of_kind in_ranges within number_at event_sound
  default_ranges e = rw e (simp (from_zero, member_range) (sound_event n [] (Default (get_or s 1 0)) ∙ simp and_assoc))

  close_out_ranges : Ranges 6
  unfolding Ranges legs_of fields_by_kind fields_in fields_of_kind in_ranges within number_at event_sound
  close_out_ranges e = rw e (simp from_zero (sound_event n [] (CloseOut (close_out_of (record_numbers 6 s))) ∙ simp and_assoc))

  close_ranges : Ranges 7
  unfolding Ranges legs_of fields_by_kind fields_in fields_of_kind in_ranges within number_at event_sound
  close_ranges e = rw e (simp from_zero (sound_event n [] (CloseOfDay (u32_at s 1)) ∙ simp and_assoc))

  -- ---- whichever kind it is
  Exact : Type 0
  Exact = is_sound (read_of n s) ≡ is_none (fault_of n s) && leb (length s) (front_length s)

  module _ (members : members_sound n ≡ true) where
    exact : (kind : ℕ) → 0 < length (kind_fields kind) → Ranges kind → get_or s 0 0 ≡ kind → Exact
    unfolding Exact read_of read_fields fields_in Ranges
    exact kind fields ranges e =
        let takes = shape_widths (get_or s 0 0) (get_or s 1 0) (rw e fields) in
        rw (members, none_is n s 0 (fields_in (record_shape s)) (omega arith), zero-add (widths (fields_in (record_shape s))), takes)
        (of_length (length s) (front_length s) n (legs_of s) (fields_by_kind (get_or s 0 0) s) (in_ranges n s 0 (fields_in (record_shape s))) (ranges e))

    -- Of no kind: unsound, and the kind is out of its range.
    unknown_exact : fields_by_kind (get_or s 0 0) s ≡ None → within (range 1 7) (get_or s 0 0) ≡ false → Exact
    unfolding Exact read_of read_fields fields_in in_ranges number_at
    unknown_exact reads out =
        rw (members, none_is n s 0 (fields_in (record_shape s)) (omega arith), out, reads, and_false (leb (0 + widths (fields_in (record_shape s))) (length s)))
        (true_or (eqb (length s) (front_length s)) (λ h. rw h refl) (λ h. rw h refl))

above_four : (k : ℕ) → 1 ≤ k → (k ≡ 1 → ⊥) → (k ≡ 2 → ⊥) → (k ≡ 3 → ⊥) → (k ≡ 4 → ⊥) → 4 < k
above_four k h a b c d = omega arith

above_seven : (k : ℕ) → 4 < k → (k ≡ 5 → ⊥) → (k ≡ 6 → ⊥) → (k ≡ 7 → ⊥) → 7 < k
above_seven k h e f g = omega arith

pub kind_out : (k : ℕ) → (k ≡ 1 → ⊥) → (k ≡ 2 → ⊥) → (k ≡ 3 → ⊥) → (k ≡ 4 → ⊥) → (k ≡ 5 → ⊥) → (k ≡ 6 → ⊥) → (k ≡ 7 → ⊥) → within (range 1 7) k ≡ false
unfolding within
kind_out k a b c d e f g = le_or_lt 1 k (λ h. rw (le-leb 1 k h, lt-leb k 7 (above_seven k (above_four k h a b c d) e f g)) refl) (λ h. rw (lt-leb 1 k h) refl)

pub record_exact : RecordExact
unfolding Exact fields_by_kind kind_fields
record_exact n s members =
    let some : 1 ≤ n = leb-true 1 n (and_left (leb 1 n) (leb n most_members) members) in
    let k = get_or s 0 0 in
    same_or k 1 (exact n s some members 1 (omega arith) (submit_ranges n s some))
    (λ a. same_or k 2 (exact n s some members 2 (omega arith) (cancel_ranges n s some))
    (λ b. same_or k 3 (exact n s some members 3 (omega arith) (limits_ranges n s some))
    (λ c. same_or k 4 (exact n s some members 4 (omega arith) (proposal_ranges n s some))
    (λ d. same_or k 5 (exact n s some members 5 (omega arith) (default_ranges n s some))
    (λ e. same_or k 6 (exact n s some members 6 (omega arith) (close_out_ranges n s some))
    (λ f. same_or k 7 (exact n s some members 7 (omega arith) (close_ranges n s some))
    (λ g. unknown_exact n s some members (sym (no_kind (record_numbers k s) k a b c d e f g)) (kind_out k a b c d e f g))))))))
