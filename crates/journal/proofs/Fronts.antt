-- The record at the front of some bytes, when more bytes come behind them. Assumes nothing.
use Prim.Native.Nat.{ℕ, zero, suc, ◌+◌, ◌*◌, ◌<◌, ◌≤◌}
use mathlib.Core.Bool.{Bool, true, false, cond, not, ◌&&◌}
use Rattle.std.specs.Prelude.{Some, None}
use mathlib.Core.List.{List, [], ◌∷◌, ◌++◌, append-nil}
use mathlib.Core.Path.{◌≡◌, refl, sym, ◌∙◌}
use native.Mathlib.Omega.{arith}
use borrow.Author.Tests.{le-leb, ne_eqb, eqb-true, eqb-false, leb-true}
use lib.Dec.{eqb, leb}
use lib.ListN.{length, get_or, length-append, get_or-append}
use Rattle.arith.proofs.Tests.{never, true_or}
use Rattle.rules.specs.declared.event.Front.{Front}
use Rattle.rules.specs.declared.event.Front.TheVariants.{Whole, Cut, UnknownKind}
use Rattle.rules.specs.Journal.{length_by_front, next_length}
use Rattle.rules.specs.declared.field.Field.{Field}
use Rattle.rules.specs.Fields.{has_legs, width_of, widths, leg_fields, kind_fields}
use Rattle.rules.specs.Records.{length_with, record_length, front_length, front_of}
use Rattle.codec.proofs.FieldBytes.{some_width}
use Rattle.journal.specs.Stages.{length_by_now, length_now}

pub positive : (k : ℕ) → (k ≡ 0 → ⊥) → 0 < k
positive zero f = absurd (f refl)
positive (suc k) f = omega arith

-- ---- by the three tests of frontOf
tested : Bool → Bool → Bool → ℕ → Front
tested a b c m = cond a Cut (cond b UnknownKind (cond c (Whole m) Cut))

is_whole : (a b c : Bool) (m n : ℕ) → tested a b c m ≡ Whole n → (b ≡ false) × (c ≡ true) × (m ≡ n)
unfolding tested
is_whole true b c m n e = never cc
is_whole false true c m n e = never cc
is_whole false false true m n e = (refl, refl, cc)
is_whole false false false m n e = never cc

is_unknown : (a b c : Bool) (m : ℕ) → tested a b c m ≡ UnknownKind → (a ≡ false) × (b ≡ true)
unfolding tested
is_unknown true b c m e = never cc
is_unknown false true c m e = (refl, refl)
is_unknown false false true m e = never cc
is_unknown false false false m e = never cc

front_tests : (s : List ℕ) → front_of s ≡ tested (eqb (length s) 0) (eqb (front_length s) 0) (leb (front_length s) (length s)) (front_length s)
unfolding front_of tested
front_tests s = refl

-- ---- lengths, whatever the fields are
above_kind : (w more legs : ℕ) → 1 ≤ w → 2 ≤ 1 + (w + more) + legs
above_kind w more legs h = omega arith

at_least : (fs : List Field) (legs : ℕ) → (length_with fs legs ≡ 0 → ⊥) → 2 ≤ length_with fs legs
unfolding widths
at_least [] legs h = absurd (h refl)
at_least (f ∷ fs) legs h = above_kind (width_of f) (widths fs) legs (some_width f)

none_of : (fs : List Field) (m n : ℕ) → length_with fs m ≡ 0 → length_with fs n ≡ 0
unfolding widths
none_of [] m n h = refl
none_of (f ∷ fs) m n h = let two = above_kind (width_of f) (widths fs) m (some_width f) in absurd (omega arith)

abbrev legs_length : ℕ → ℕ → ℕ
legs_length kind legs = cond (has_legs kind) (widths leg_fields * legs) 0

pub two_at_least : (s : List ℕ) → (front_length s ≡ 0 → ⊥) → 2 ≤ front_length s
unfolding record_length
two_at_least s h = at_least (kind_fields (get_or s 0 0)) (legs_length (get_or s 0 0) (get_or s 1 0)) h

no_length : (kind m n : ℕ) → record_length kind m ≡ 0 → record_length kind n ≡ 0
unfolding record_length
no_length kind m n h = none_of (kind_fields kind) (legs_length kind m) (legs_length kind n) h

-- ---- a whole record is not empty and lies within the bytes
module _ (s : List ℕ) (n : ℕ) (e : front_of s ≡ Whole n) where
  whole : (eqb (front_length s) 0 ≡ false) × (leb (front_length s) (length s) ≡ true) × (front_length s ≡ n)
  whole = is_whole (eqb (length s) 0) (eqb (front_length s) 0) (leb (front_length s) (length s)) (front_length s) n (sym (front_tests s) ∙ e)

  whole_fits : (2 ≤ n) × (n ≤ length s)
  whole_fits =
      let m : front_length s ≡ n = whole.2 in
      let two : 2 ≤ front_length s = two_at_least s (eqb-false (front_length s) 0 whole.0) in
      let in-it : front_length s ≤ length s = leb-true (front_length s) (length s) whole.1 in
      (omega arith, omega arith)

  -- With more bytes behind it, it stays the record at the front.
  front_more : (t : List ℕ) → front_of (s ++ t) ≡ Whole n
  unfolding tested
  front_more t =
      let f = whole_fits in
      let same : front_length (s ++ t) ≡ n = rw (get_or-append s t 0 0 (omega arith), get_or-append s t 0 1 (omega arith)) whole.2 in
      let l = length-append s t in
      front_tests (s ++ t) ∙ rw (ne_eqb (length (s ++ t)) 0 (λ z. omega arith), same, ne_eqb n 0 (λ z. omega arith), le-leb n (length (s ++ t)) (omega arith)) refl

-- ---- so does one of unknown kind
module _ (s : List ℕ) (e : front_of s ≡ UnknownKind) where
  unknown : (eqb (length s) 0 ≡ false) × (eqb (front_length s) 0 ≡ true)
  unknown = is_unknown (eqb (length s) 0) (eqb (front_length s) 0) (leb (front_length s) (length s)) (front_length s) (sym (front_tests s) ∙ e)

  unknown_fits : 0 < length s
  unknown_fits = positive (length s) (eqb-false (length s) 0 unknown.0)

  unknown_more : (t : List ℕ) → front_of (s ++ t) ≡ UnknownKind
  unfolding tested
  unknown_more t =
      let one = unknown_fits in
      let k = get_or s 0 0 in
      let none : front_length s ≡ 0 = eqb-true (front_length s) 0 unknown.1 in
      let still : front_length (s ++ t) ≡ 0 = rw (get_or-append s t 0 0 one) (no_length k (get_or s 1 0) (get_or (s ++ t) 1 0) none) in
      let l = length-append s t in
      front_tests (s ++ t) ∙ rw (ne_eqb (length (s ++ t)) 0 (λ z. omega arith), still) refl

-- ---- a record that can be run now is the next record, whatever comes
by_front : {P : Type 0} (s : List ℕ) → ((n : ℕ) → front_of s ≡ Whole n → P) → (front_of s ≡ Cut → P) → (front_of s ≡ UnknownKind → P) → P
by_front {P} s f g h = go (front_of s) refl
  where
    go : (x : Front) → front_of s ≡ x → P
    go (Whole n) e = f n e
    go Cut e = g e
    go UnknownKind e = h e

module _ (last : Bool) (s : List ℕ) where
  now_whole : (n : ℕ) → front_of s ≡ Whole n → length_now last s ≡ Some n
  unfolding length_by_now
  now_whole n e = rw e refl

  now_unknown : front_of s ≡ UnknownKind → length_now last s ≡ Some 1
  unfolding length_by_now
  now_unknown e = rw e refl

  now_cut : front_of s ≡ Cut → length_now last s ≡ cond (last && not (eqb (length s) 0)) (Some (length s)) None
  unfolding length_by_now
  now_cut e = rw e refl

next_whole : (s : List ℕ) (n : ℕ) → front_of s ≡ Whole n → next_length s ≡ n
unfolding length_by_front
next_whole s n e = rw e refl

next_unknown : (s : List ℕ) → front_of s ≡ UnknownKind → next_length s ≡ 1
unfolding length_by_front
next_unknown s e = rw e refl

next_cut : (s : List ℕ) → front_of s ≡ Cut → next_length s ≡ length s
unfolding length_by_front
next_cut s e = rw e refl

-- No record is without a byte.
pub next_some : (s : List ℕ) → 0 < length s → 0 < next_length s
next_some s h =
    by_front s (λ n e. rw (next_whole s n e) (omega (arith, whole_fits s n e))) (λ e. rw (next_cut s e) h) (λ e. rw (next_unknown s e) (omega arith))

-- Of a cut record: all bytes, where they are the last, and none where more may come.
all_left : (last : Bool) (n : ℕ) {m : ℕ} → cond (last && not (eqb n 0)) (Some n) None ≡ Some m → (last ≡ true) × (0 < n) × (n ≡ m)
all_left true n h = true_or (eqb n 0) (λ e. let z = rw e at h in absurd cc) (λ e. let z = rw e at h in (refl, positive n (eqb-false n 0 e), cc))
all_left false n h = absurd cc

none_left : (n : ℕ) → cond (not (eqb n 0)) (Some n) None ≡ None → n ≡ 0
none_left n h = true_or (eqb n 0) (λ e. eqb-true n 0 e) (λ e. let z = rw e at h in absurd cc)

module _ (last : Bool) (s : List ℕ) where
  module _ {m : ℕ} (now : length_now last s ≡ Some m) where
    pub now_fits : (0 < m) × (m ≤ length s)
    now_fits =
        by_front s (λ n e. let same : n ≡ m = let q = sym (now_whole last s n e) ∙ now in cc in let f = whole_fits s n e in (omega arith, omega arith))
        (λ e. let all = all_left last (length s) (sym (now_cut last s e) ∙ now) in (omega (arith, all.1, all.2), omega (arith, all.2)))
        (λ e. let same : 1 ≡ m = let q = sym (now_unknown last s e) ∙ now in cc in let f = unknown_fits s e in (omega arith, omega arith))

    pub now_next : (more : List ℕ) → (last ≡ true → more ≡ []) → next_length (s ++ more) ≡ m
    now_next more ends =
        by_front s (λ n e. let same : n ≡ m = let q = sym (now_whole last s n e) ∙ now in cc in next_whole (s ++ more) n (front_more s n e more) ∙ same)
        (λ e. let all = all_left last (length s) (sym (now_cut last s e) ∙ now) in rw (ends all.0, append-nil s) (next_cut s e ∙ all.2))
        (λ e. let same : 1 ≡ m = let q = sym (now_unknown last s e) ∙ now in cc in next_unknown (s ++ more) (unknown_more s e more) ∙ same)

  -- One that cannot be run now is cut.
  pub now_short : length_now last s ≡ None → front_of s ≡ Cut
  now_short z =
      by_front s (λ n e. let q = sym (now_whole last s n e) ∙ z in absurd cc) (λ e. e)
      (λ e. let q = sym (now_unknown last s e) ∙ z in absurd cc)

  pub now_none : length_now last s ≡ None → last ≡ true → length s ≡ 0
  now_none z yet = let c = sym (now_cut last s (now_short z)) ∙ z in none_left (length s) (rw yet at c)
