-- What the writer of records needs: lengths, numbers that fit their fields, and the outcome by the tests that lead to it. Assumes nothing.
use Prim.Native.Nat.{ℕ, ◌+◌, ◌*◌, ◌-◌, ◌≤◌, ◌<◌}
use mathlib.Core.Bool.{Bool, true, false, cond}
use mathlib.Core.List.{List, [], ◌∷◌, ◌++◌, flat_map, append-nil}
use mathlib.Core.Path.{◌≡◌, refl, sym, ap, ◌∙◌}
use native.Mathlib.Nat.{mul_comm}
use native.Mathlib.Omega.{arith}
use borrow.Author.Tests.{lt-ltb, le-ltb, lt-leb, leb-true, eq-eqb, ne_eqb}
use lib.Dec.{leb}
use lib.ListN.{length, length-append}
use Rattle.std.specs.Prelude.{Ok, Err}
use Rattle.arith.proofs.Appends.{flat_length}
use Rattle.arith.specs.Lists.{over}
use Rattle.arith.proofs.Beside.{over_next, over_then}
use Rattle.arith.proofs.Tests.{never, le_or_lt, same_or, and_right, and_false}
use Rattle.rules.specs.declared.refusal.Refusal.TheVariants.{TableUnsound, RecordUnsound}
use Rattle.rules.specs.declared.event.Event.TheVariants.{Submit, Cancel, DayLimits, Proposal, Default, CloseOut, CloseOfDay}
use Rattle.rules.specs.declared.event.Event.{Event}
use Rattle.rules.specs.declared.event.Leg.{Leg}
use Rattle.rules.specs.declared.event.OrderKind.TheVariants.{Resting, Oeye, Teye}
use Rattle.rules.specs.declared.event.OrderKind.{OrderKind}
use Rattle.rules.specs.declared.order.Side.TheVariants.{Buy, Sell}
use Rattle.rules.specs.declared.order.Side.{Side}
use Rattle.rules.specs.Ranges.{contract_count, most_members, last_second, most_price, most_lots, most_legs, most_ratio}
use Rattle.rules.specs.Fields.{has_legs, widths, kind_fields, bytes_by}
use Rattle.rules.specs.Header.{u16_bytes, u32_bytes, members_sound}
use Rattle.rules.specs.Sides.{side_number}
use Rattle.rules.specs.Records.{leg_length, leg_place, record_length, order_kind_number, event_sound, leg_bytes, kind_number, event_numbers, field_bytes, bytes_of, write_spec}
use Rattle.record_kinds.specs.Numbers.{leg_count}
use Rattle.record_kinds.proofs.EachKind.{described}
use Rattle.codec.specs.Fits.{Fits, EventFits}
use Rattle.codec.proofs.FieldBytes.{some_widths, length_bytes}
use Rattle.codec.proofs.Fields.{record_length_holds}

pub leg_wide : (g : Leg) → length (leg_bytes g) ≡ 10
unfolding bytes_by u16_bytes u32_bytes
leg_wide g = refl

length_legs : (k : ℕ) (legs : List Leg) → length (cond (has_legs k) (flat_map leg_bytes legs) []) ≡ cond (has_legs k) (leg_length * length legs) 0
length_legs k legs = go (has_legs k)
  where
    go : (b : Bool) → length (cond b (flat_map leg_bytes legs) []) ≡ cond b (leg_length * length legs) 0
    go true = flat_length leg_length leg_bytes leg_wide legs ∙ mul_comm (length legs) leg_length
    go false = refl

pub record_sized : (e : Event) (legs : ℕ) → record_length (kind_number e) legs ≡ 1 + widths (kind_fields (kind_number e)) + cond (has_legs (kind_number e)) (leg_length * legs) 0
record_sized e legs = record_length_holds (kind_number e) legs (described e).some

length_own : (e : Event) → length (bytes_by (kind_fields (kind_number e)) (event_numbers e)) ≡ widths (kind_fields (kind_number e))
length_own e = length_bytes (kind_fields (kind_number e)) (event_numbers e) (omega (arith, (described e).counted))

-- where a proposal's first leg stands
pub first_leg : 1 + widths (kind_fields 4) ≡ 2
unfolding widths kind_fields
first_leg = refl

pub length_proposal : (e : Event) → kind_number e ≡ 4 → record_length (kind_number e) (leg_count e) ≡ leg_place (leg_count e)
unfolding record_length
length_proposal e h = ap (λ k. record_length k (leg_count e)) h

pub length_record : (e : Event) (legs : List Leg) → length legs ≡ leg_count e → length (bytes_of e legs) ≡ record_length (kind_number e) (leg_count e)
unfolding bytes_of field_bytes
length_record e legs l =
    let k = kind_number e in
    let own = bytes_by (kind_fields k) (event_numbers e) in
    let beside = cond (has_legs k) (flat_map leg_bytes legs) [] in
    let first : length own ≡ widths (kind_fields k) = length_own e in
    let last : length beside ≡ cond (has_legs k) (leg_length * leg_count e) 0 = rw l at (length_legs k legs) in
    omega (arith, length-append own beside, record_sized e (leg_count e))

-- a record has its kind and its fields, of which there is one at least
pub some_bytes : (e : Event) (legs : ℕ) → widths (kind_fields (kind_number e)) < record_length (kind_number e) legs
some_bytes e legs = omega (arith, record_sized e legs)

pub two_bytes : (e : Event) (legs : ℕ) → 1 < record_length (kind_number e) legs
two_bytes e legs = omega (arith, some_bytes e legs, some_widths (kind_fields (kind_number e)) (described e).some)

-- ---- a sound event
pub bound : (x m : ℕ) → (m < x → true ≡ false) → x ≤ m
bound x m f = le_or_lt x m (λ h. h) (λ h. never (f h))

side_small : (x : Side) → side_number x < 256
side_small Buy = omega arith
side_small Sell = omega arith

order_kind_small : (x : OrderKind) → order_kind_number x < 256
order_kind_small Resting = omega arith
order_kind_small Oeye = omega arith
order_kind_small Teye = omega arith

-- Its numbers fit their fields, and as many legs stand beside it as it says, at most 12.
pub record SoundEvent (e : Event) (legs : List Leg) : Type 0 where
  pub fits : EventFits e
  pub beside : length legs ≡ leg_count e
  pub few : leg_count e ≤ most_legs

module _ (n : ℕ) (m : members_sound n ≡ true) (legs : List Leg) where
  member_fits : (x : ℕ) → (n ≤ x → true ≡ false) → x < 256
  member_fits x f =
      let few : n ≤ most_members = leb-true n most_members (and_right (leb 1 n) (leb n most_members) m) in
      le_or_lt n x (λ h. never (f h)) (λ h. omega arith)

  contract_fits : (x : ℕ) → (contract_count - 1 < x → true ≡ false) → x < 256
  contract_fits x f = omega (arith, bound x (contract_count - 1) f)

  time_fits : (x : ℕ) → (last_second < x → true ≡ false) → x < 4294967296
  time_fits x f = omega (arith, bound x last_second f)

  price_fits : (x : ℕ) → (most_price < x → true ≡ false) → x < 4294967296
  price_fits x f = omega (arith, bound x most_price f)

  counted : (k : ℕ) → ((length legs ≡ k → ⊥) → true ≡ false) → length legs ≡ k
  counted k f = same_or (length legs) k (λ h. h) (λ h. never (f h))

  -- with an entry for each kind
  pub sound_event : (e : Event) → event_sound n e legs ≡ true → SoundEvent e legs
  unfolding event_sound kind_fields Fits
  sound_event (Submit e) t =
      record {
        fits = (
          time_fits e.time (λ h. sym (simp (lt-leb e.time last_second h) at t)),
          (
            member_fits e.member (λ h. sym (simp (le-ltb e.member n h, and_false) at t)),
            (
              contract_fits e.contract (λ h. sym (simp (lt-leb e.contract (contract_count - 1) h, and_false) at t)),
              (
                side_small e.side,
                (
                  order_kind_small e.kind,
                  (
                    price_fits e.price.0 (λ h. sym (simp (lt-leb e.price.0 most_price h, and_false) at t)),
                    (
                      omega (arith, bound e.lots.0 most_lots (λ h. sym (simp (lt-leb e.lots.0 most_lots h, and_false) at t))),
                      tt,
                    ),
                  ),
                ),
              ),
            ),
          ),
        );
        beside = counted 0 (λ h. sym (simp (ne_eqb (length legs) 0 h, and_false) at t));
        few = omega arith;
      }
  sound_event (Cancel e) t =
      record {
        fits = (
          time_fits e.time (λ h. sym (simp (lt-leb e.time last_second h) at t)),
          (
            member_fits e.member (λ h. sym (simp (le-ltb e.member n h, and_false) at t)),
            (
              omega (arith, bound e.order 4294967295 (λ h. sym (simp (le-ltb e.order 4294967296 h, and_false) at t))),
              tt,
            ),
          ),
        );
        beside = counted 0 (λ h. sym (simp (ne_eqb (length legs) 0 h, and_false) at t));
        few = omega arith;
      }
  sound_event (DayLimits e) t =
      let high = bound e.high.0 most_price (λ h. sym (simp (lt-leb e.high.0 most_price h, and_false) at t)) in
      let low = bound e.low.0 e.high.0 (λ h. sym (simp (lt-leb e.low.0 e.high.0 h, and_false) at t)) in
      record {
        fits = (contract_fits e.contract (λ h. sym (simp (lt-leb e.contract (contract_count - 1) h) at t)), (omega arith, (omega arith, tt)));
        beside = counted 0 (λ h. sym (simp (ne_eqb (length legs) 0 h, and_false) at t));
        few = omega arith;
      }
  sound_event (Proposal k) t =
      let few = bound k most_legs (λ h. sym (simp (lt-leb k most_legs h, and_false) at t)) in
      record { fits = (omega arith, tt); beside = counted k (λ h. sym (simp (ne_eqb (length legs) k h, and_false) at t)); few = few }
  sound_event (Default x) t =
      record {
        fits = (member_fits x (λ h. sym (simp (le-ltb x n h) at t)), tt);
        beside = counted 0 (λ h. sym (simp (ne_eqb (length legs) 0 h, and_false) at t));
        few = omega arith;
      }
  sound_event (CloseOut e) t =
      let ratio = bound e.ratio most_ratio (λ h. sym (simp (lt-leb e.ratio most_ratio h, and_false) at t)) in
      record {
        fits = (contract_fits e.contract (λ h. sym (simp (lt-leb e.contract (contract_count - 1) h) at t)), (omega arith, tt));
        beside = counted 0 (λ h. sym (simp (ne_eqb (length legs) 0 h, and_false) at t));
        few = omega arith;
      }
  sound_event (CloseOfDay s) t =
      record {
        fits = (time_fits s (λ h. sym (simp (lt-leb s last_second h) at t)), tt);
        beside = counted 0 (λ h. sym (simp (ne_eqb (length legs) 0 h, and_false) at t));
        few = omega arith;
      }

-- ---- what is written
-- the fields of its kind, then its legs
module _ (e : Event) (legs : List Leg) (out m : List ℕ) (p : m ≡ over 1 (bytes_by (kind_fields (kind_number e)) (event_numbers e)) out) where
  abbrev own : List ℕ
  own = bytes_by (kind_fields (kind_number e)) (event_numbers e)

  by_legs : {k : List ℕ} (b : Bool) → has_legs (kind_number e) ≡ b → k ≡ over 1 (own ++ cond b (flat_map leg_bytes legs) []) out → k ≡ over 1 (field_bytes e legs) out
  unfolding field_bytes
  by_legs b h q = q ∙ ap (λ x. over 1 (own ++ cond x (flat_map leg_bytes legs) []) out) (sym h)

  pub no_legs_put : (kind_number e ≡ 4 → ⊥) → m ≡ over 1 (field_bytes e legs) out
  no_legs_put h = by_legs false (ne_eqb (kind_number e) 4 h) (p ∙ ap (λ x. over 1 x out) (sym (append-nil own)))

  pub legs_put : (k : List ℕ) → kind_number e ≡ 4 → k ≡ over 2 (flat_map leg_bytes legs) m → 1 + widths (kind_fields (kind_number e)) ≤ length out → k ≡ over 1 (field_bytes e legs) out
  legs_put k h q room =
      let sized = length_own e in
      let first : 1 + widths (kind_fields (kind_number e)) ≡ 2 = rw h first_leg in
      by_legs true (eq-eqb (kind_number e) 4 h) (over_next 1 2 own (flat_map leg_bytes legs) out m k p q (omega arith) (omega arith))

-- its kind, then its fields
pub record_put : (e : Event) (legs : List Leg) (out m k : List ℕ) {kind : ℕ} → kind ≡ kind_number e → m ≡ over 0 (kind ∷ []) out → k ≡ over 1 (field_bytes e legs) m → 1 ≤ length out
    → k ≡ over 0 (bytes_of e legs) out
unfolding bytes_of
record_put e legs out m k {kind} q a b h = rw (← q) (over_then 1 (kind ∷ []) (field_bytes e legs) out m k a b refl h)

-- ---- the outcome of a write
module _ (n : ℕ) (e : Event) (legs : List Leg) (out : List ℕ) where
  pub write_few : members_sound n ≡ false → record { answer = Err RecordUnsound; after = out } ≡ write_spec n e legs out
  unfolding write_spec
  write_few m = rw m refl

  module _ (m : members_sound n ≡ true) where
    pub write_unsound : event_sound n e legs ≡ false → record { answer = Err RecordUnsound; after = out } ≡ write_spec n e legs out
    unfolding write_spec
    write_unsound t = rw (m, t) refl

    module _ (t : event_sound n e legs ≡ true) where
      pub write_short : length out < length (bytes_of e legs) → record { answer = Err TableUnsound; after = out } ≡ write_spec n e legs out
      unfolding write_spec
      write_short h = rw (m, t, lt-ltb (length out) (length (bytes_of e legs)) h) refl

      pub write_whole : (k : ℕ) (after : List ℕ) → k ≡ length (bytes_of e legs) → length (bytes_of e legs) ≤ length out → after ≡ over 0 (bytes_of e legs) out
          → record { answer = Ok k; after = after } ≡ write_spec n e legs out
      unfolding write_spec
      write_whole k after a h w = rw (m, t, le-ltb (length out) (length (bytes_of e legs)) h, a, w) refl
