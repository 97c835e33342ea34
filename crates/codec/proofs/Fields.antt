-- What the fields of a record say, whatever its kind. Assumes nothing.
use Prim.Native.Nat.{ℕ, ◌+◌, ◌*◌, ◌-◌, ◌≤◌, ◌<◌}
use mathlib.Core.Bool.{Bool, true, false, cond}
use mathlib.Core.List.{List, [], ◌∷◌}
use mathlib.Core.Path.{◌≡◌, refl, sym, ap, ◌∙◌}
use native.Mathlib.Omega.{arith}
use borrow.Author.Tests.{eq-eqb, ne_eqb}
use lib.ListN.{length, get_or, take, drop}
use lib.Seq.{take_all}
use Rattle.std.specs.Prelude.{Option, Some, None}
use Rattle.arith.specs.Columns.{padded}
use Rattle.arith.proofs.Tests.{by_eqb}
use Rattle.rules.specs.declared.event.Event.{Event}
use Rattle.rules.specs.declared.field.Field.{Field}
use Rattle.rules.specs.Fields.{has_legs, widths, kind_fields, numbers_at}
use Rattle.rules.specs.Header.{u16_at, u32_at, members_sound}
use Rattle.rules.specs.Records.{length_with, leg_length, record_length, front_length, kind_number, event_numbers, event_by_kind}
use Rattle.rules.specs.Records.{record_numbers, fields_by_kind, fields_of, leg_at, legs_of, event_sound, if_sound, read_of}
use Rattle.record_kinds.proofs.EachKind.{nothing, if_true, numbers_of_event}
use Rattle.codec.proofs.FieldBytes.{length_numbers}
use Rattle.codec.proofs.FieldLoops.{with_zeros}

-- ---- lengths
with_fields : (fs : List Field) (legs : ℕ) → 0 < length fs → length_with fs legs ≡ 1 + widths fs + legs
unfolding widths
with_fields [] legs h = absurd (omega arith)
with_fields (f ∷ fs) legs h = refl

pub record_length_holds : (k legs : ℕ) → 0 < length (kind_fields k) → record_length k legs ≡ 1 + widths (kind_fields k) + cond (has_legs k) (leg_length * legs) 0
unfolding record_length
record_length_holds k legs h = with_fields (kind_fields k) (cond (has_legs k) (leg_length * legs) 0) h

inside : (fs : List Field) (legs : ℕ) → widths fs ≤ length_with fs legs - 1
unfolding widths
inside [] legs = omega arith
inside (f ∷ fs) legs = omega arith

-- The fields of a kind are in each of its records.
pub fields_inside : (k legs : ℕ) → widths (kind_fields k) ≤ record_length k legs - 1
unfolding record_length
fields_inside k legs = inside (kind_fields k) (cond (has_legs k) (leg_length * legs) 0)

-- Only a proposal's length depends on its number of legs.
pub length_legless : (k a b : ℕ) → (k ≡ 4 → ⊥) → record_length k a ≡ record_length k b
unfolding record_length
length_legless k a b h = rw (ne_eqb k 4 h) refl

-- ---- by the kind and the length, as they were read
module _ (s : List ℕ) {k second n : ℕ} (kind : k ≡ get_or s 0 0) (next : second ≡ get_or s 1 0) (sized : n ≡ record_length k second) where
  pub fields_cut : (length s ≡ n → ⊥) → None ≡ fields_of s
  unfolding fields_of
  fields_cut l = rw (← kind, ← next, ← sized, ne_eqb (length s) n l) refl

  pub fields_of_kind_lem : length s ≡ n → fields_by_kind k s ≡ fields_of s
  unfolding fields_of
  fields_of_kind_lem l = rw (← kind, ← next, ← sized, eq-eqb (length s) n l) refl

-- ---- by a record's numbers
pub by_numbers : (kind : ℕ) (s f : List ℕ) → record_numbers kind s ≡ f → fields_by_kind kind s ≡ event_by_kind kind f
unfolding fields_by_kind
by_numbers kind s f h = ap (event_by_kind kind) h

-- all of them, when each field was read
pub numbers_read : (s : List ℕ) (k n i : ℕ) {numbers : List ℕ} → k ≡ get_or s 0 0 → length (kind_fields k) ≤ i → numbers ≡ padded n (k ∷ numbers_at s 1 (take i (kind_fields k)))
    → numbers ≡ padded n (record_numbers k s)
unfolding record_numbers
numbers_read s k n i e h q = q ∙ ap (padded n) (λ j. e j ∷ numbers_at s 1 (take_all i (kind_fields k) h j))

event_with_zeros : (kind n : ℕ) (f : List ℕ) → event_by_kind kind (padded n f) ≡ event_by_kind kind f
unfolding event_by_kind padded
event_with_zeros kind n f = simp with_zeros

pub event_read : (s : List ℕ) (k n : ℕ) {numbers : List ℕ} → k ≡ get_or s 0 0 → numbers ≡ padded n (record_numbers k s) → event_by_kind (get_or numbers 0 0) numbers ≡ fields_by_kind k s
unfolding record_numbers padded
event_read s k n {numbers} e q =
    let f = record_numbers k s in
    let first : get_or numbers 0 0 ≡ k = ap (λ x. get_or x 0 0) q ∙ sym e in
    ap (λ j. event_by_kind j numbers) first ∙ (ap (event_by_kind k) q ∙ (event_with_zeros k n f ∙ sym (by_numbers k s f refl)))

-- a leg's numbers, where they stand
pub leg_read : (s : List ℕ) (i : ℕ) → record { order = u32_at s i; lots = record { 0 = u16_at s (i + 4) }; price = record { 0 = u32_at s (i + 6) } } ≡ leg_at s i
unfolding numbers_at
leg_read s i = let price : i + 4 + 2 ≡ i + 6 = omega arith in rw price refl

-- ---- a record that says an event has its kind, its numbers and its length
pub record Says (s : List ℕ) (e : Event) : Type 0 where
  pub kind : kind_number e ≡ get_or s 0 0
  pub numbers : event_numbers e ≡ numbers_at s 1 (kind_fields (kind_number e))
  pub sized : length s ≡ record_length (kind_number e) (get_or s 1 0)

whole : (s : List ℕ) (e : Event) → fields_of s ≡ Some e → (length s ≡ front_length s) × (fields_by_kind (get_or s 0 0) s ≡ Some e)
unfolding fields_of
whole s e =
    by_eqb (λ b. cond b (fields_by_kind (get_or s 0 0) s) None ≡ Some e → (length s ≡ front_length s) × (fields_by_kind (get_or s 0 0) s ≡ Some e)) (length s) (front_length s)
    (λ l h. (l, h)) (λ _ h. nothing h)

after_kind : (k : ℕ) (s : List ℕ) → drop 1 (record_numbers k s) ≡ numbers_at s 1 (kind_fields k)
unfolding record_numbers
after_kind k s = refl

count_numbers : (k : ℕ) (s : List ℕ) → length (record_numbers k s) ≡ 1 + length (kind_fields k)
unfolding record_numbers
count_numbers k s = omega (arith, length_numbers s 1 (kind_fields k))

pub says : (s : List ℕ) (e : Event) → fields_of s ≡ Some e → Says s e
says s e h =
    let k = get_or s 0 0 in
    let f = record_numbers k s in
    let fields = numbers_at s 1 (kind_fields k) in
    let w = whole s e h in
    let count : length f ≡ 1 + length (kind_fields k) = count_numbers k s in
    let given = numbers_of_event k f e (sym (by_numbers k s f refl) ∙ w.1) (omega arith) in
    let all : take (length (kind_fields k)) (drop 1 f) ≡ fields = rw (after_kind k s) (take_all (length (kind_fields k)) fields (omega (arith, length_numbers s 1 (kind_fields k)))) in
    record { kind = given.0; numbers = rw given.0 (given.1 ∙ all); sized = rw given.0 w.0 }

-- ---- reading by what the fields say
module _ (n : ℕ) (s : List ℕ) where
  pub read_none : members_sound n ≡ false → None ≡ read_of n s
  unfolding read_of
  read_none m = rw m refl

  module _ {r : Option Event} (m : members_sound n ≡ true) (f : r ≡ fields_of s) where
    read_by : read_of n s ≡ if_sound n (legs_of s) r
    unfolding read_of
    read_by = rw (m, ← f) refl

    pub read_unsound : r ≡ None → None ≡ read_of n s
    read_unsound u = sym (read_by ∙ rw u refl)

    pub read_judged : {e : Event} {b v : Bool} → r ≡ Some e → b ≡ event_sound n e (legs_of s) → b ≡ v → cond v (Some e) None ≡ read_of n s
    read_judged {e} {b} {v} g j t = sym (read_by ∙ rw (g, ← j, t) refl)

  pub said : {e : Event} → read_of n s ≡ Some e → (members_sound n ≡ true) × (fields_of s ≡ Some e) × (event_sound n e (legs_of s) ≡ true)
  unfolding read_of
  said {e} h =
      let members = if_true (members_sound n) (if_sound n (legs_of s) (fields_of s)) e h in
      go (fields_of s) (λ f. f) members.0 members.1
    where
      go : (r : Option Event) → (r ≡ Some e → fields_of s ≡ Some e) → members_sound n ≡ true → if_sound n (legs_of s) r ≡ Some e → (members_sound n ≡ true) × (fields_of s ≡ Some e)
          × (event_sound n e (legs_of s) ≡ true)
      go (Some x) f m g =
          let ranges = if_true (event_sound n x (legs_of s)) (Some x) e g in
          let same : x ≡ e = let w = ranges.1 in cc in
          (m, f ranges.1, rw same at ranges.0)
      go None f m g = nothing g
