-- The fields and the event of a kind by its number, and of a number that no kind has. Assumes nothing.
use Prim.Native.Nat.{ℕ, zero, suc, ◌+◌, ◌*◌, ◌≤◌, ◌<◌}
use mathlib.Core.Bool.{cond}
use mathlib.Core.List.{List, [], ◌∷◌}
use mathlib.Core.Path.{◌≡◌, refl, sym, ap, ◌∙◌}
use native.Mathlib.Nat.{add-zero, add_assoc}
use native.Mathlib.Numerals.{add-one}
use native.Mathlib.Omega.{arith}
use borrow.Author.Tests.{lt-leb, ne_eqb}
use lib.Dec.{eqb, leb}
use lib.ListN.{length, get_or, drop, drop_of_length-le}
use lib.Seq.{drop-cons}
use Rattle.std.specs.Prelude.{None}
use Rattle.arith.proofs.Tests.{and_false}
use Rattle.rules.specs.declared.field.Field.{Field}
use Rattle.rules.specs.declared.field.Field.TheVariants.{Kind}
use Rattle.rules.specs.Fields.{close_of_day_kind, close_of_day_fields, has_legs, width_of, widths, kind_fields}
use Rattle.rules.specs.Records.{length_with, record_length, submit_of, event_by_kind}

-- A kind that is none of the first six is a close of day or none.
module _ (k : ℕ) (a : k ≡ 1 → ⊥) (b : k ≡ 2 → ⊥) (c : k ≡ 3 → ⊥) (d : k ≡ 4 → ⊥) (e : k ≡ 5 → ⊥) (f : k ≡ 6 → ⊥) where
  last_kind : kind_fields k ≡ cond (eqb k close_of_day_kind) close_of_day_fields []
  unfolding kind_fields
  last_kind = simp (ne_eqb _ _ a, ne_eqb _ _ b, ne_eqb _ _ c, ne_eqb _ _ d, ne_eqb _ _ e, ne_eqb _ _ f)

  pub no_fields : (k ≡ 7 → ⊥) → [] ≡ kind_fields k
  no_fields g = rw (last_kind, ne_eqb _ _ g) refl

-- A field that there is, whatever stands for one that there is not.
pub field_there : (fs : List Field) (i : ℕ) (y z : Field) → i < length fs → get_or fs i y ≡ get_or fs i z
field_there [] i y z h = absurd (omega arith)
field_there (f ∷ fs) zero y z h = refl
field_there (f ∷ fs) (suc i) y z h = field_there fs i y z (omega arith)

-- ---- the bytes of fields, added from the first on
module _ (fs : List Field) (i n : ℕ) where
  pub widths_next : {f : Field} {w : ℕ} → i < length fs → f ≡ get_or fs i Kind → w ≡ width_of f → n + widths (drop i fs) ≡ widths fs → n + w + widths (drop (i + 1) fs) ≡ widths fs
  unfolding widths
  widths_next {f} {w} h e u known =
      rw (add-one i, u, e, add_assoc n (width_of (get_or fs i Kind)) (widths (drop (suc i) fs))) (rw (drop-cons fs i Kind h) at known)

  pub widths_end : length fs ≤ i → n + widths (drop i fs) ≡ widths fs → n ≡ widths fs
  unfolding widths
  widths_end h known = sym (add-zero n) ∙ rw (drop_of_length-le fs h) at known

-- ---- lengths of records, by whether there are fields
module _ (kind legs : ℕ) where
  pub length_none : length (kind_fields kind) ≡ 0 → 0 ≡ record_length kind legs
  unfolding record_length
  length_none h = go (kind_fields kind) h
    where
      go : (fs : List Field) → length fs ≡ 0 → 0 ≡ length_with fs (cond (has_legs kind) (10 * legs) 0)
      go [] h = refl
      go (f ∷ fs) h = absurd (omega arith)

  pub length_some : {n : ℕ} → (length (kind_fields kind) ≡ 0 → ⊥) → n ≡ widths (kind_fields kind) → 1 + n + cond (has_legs kind) (10 * legs) 0 ≡ record_length kind legs
  unfolding record_length
  length_some {n} h e = rw e (go (kind_fields kind) h)
    where
      go : (fs : List Field) → (length fs ≡ 0 → ⊥) → 1 + widths fs + cond (has_legs kind) (10 * legs) 0 ≡ length_with fs (cond (has_legs kind) (10 * legs) 0)
      go [] h = absurd (h refl)
      go (f ∷ fs) h = refl

-- ---- the event of numbers
module _ (f : List ℕ) where
  pub by_kind : (k : ℕ) → get_or f 0 0 ≡ k → event_by_kind k f ≡ event_by_kind (get_or f 0 0) f
  by_kind k e = ap (λ x. event_by_kind x f) (sym e)

  pub no_kind : (k : ℕ) → (k ≡ 1 → ⊥) → (k ≡ 2 → ⊥) → (k ≡ 3 → ⊥) → (k ≡ 4 → ⊥) → (k ≡ 5 → ⊥) → (k ≡ 6 → ⊥) → (k ≡ 7 → ⊥) → None ≡ event_by_kind k f
  unfolding event_by_kind
  no_kind k n₁ n₂ n₃ n₄ n₅ n₆ n₇ = simp (ne_eqb k 1 n₁, ne_eqb k 2 n₂, ne_eqb k 3 n₃, ne_eqb k 4 n₄, ne_eqb k 5 n₅, ne_eqb k 6 n₆, ne_eqb k 7 n₇)

  pub no_side : 1 < get_or f 4 0 → None ≡ submit_of f
  no_side h = rw (lt-leb (get_or f 4 0) 1 h) refl

  pub no_order_kind : 2 < get_or f 5 0 → None ≡ submit_of f
  no_order_kind h = rw (lt-leb (get_or f 5 0) 2 h, and_false (leb (get_or f 4 0) 1)) refl
