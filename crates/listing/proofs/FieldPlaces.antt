-- Which field stands where. Assumes nothing.
use Prim.Native.Nat.{ℕ, zero, suc, ◌+◌, ◌*◌, ◌-◌, ◌%◌, ◌≤◌, ◌<◌}
use mathlib.Core.List.{List, [], ◌∷◌, ◌++◌}
use mathlib.Core.Path.{◌≡◌, refl, sym, ap, ◌∙◌}
use mathlib.Core.Bool.{Bool, true, false, cond}
use native.Mathlib.Nat.{add-zero}
use native.Mathlib.Omega.{arith}
use borrow.Author.Tests.{eq-eqb, ne_eqb}
use lib.ListN.{length, get_or, replicate, length-append, get_or-append}
use lib.Seq.{get_or-append-add}
use Rattle.rules.specs.declared.field.Field.{Field}
use Rattle.rules.specs.declared.field.Field.TheVariants.{Kind, Holiday, Limit}
use Rattle.listing_words.specs.declared.field.Shape.TheVariants.{Header}
use Rattle.rules.specs.Fields.{proposal_kind, has_legs, leg_fields, kind_fields, times_over, fields_of_kind}
use Rattle.listing_words.specs.Fields.{fixed_fields, fields_in}

-- ---- a kind's own fields, then those of the legs
legs_length_lem : (n : ℕ) → length (times_over n leg_fields) ≡ 3 * n
unfolding times_over
legs_length_lem zero = refl
legs_length_lem (suc n) = rw (legs_length_lem n) (omega arith)

leg_at_lem : {f : Field} (n i : ℕ) → i < 3 * n → f ≡ get_or leg_fields (i % 3) Kind → f ≡ get_or (times_over n leg_fields) i Kind
unfolding times_over
leg_at_lem zero i h g = absurd (omega arith)
leg_at_lem (suc n) zero h g = g
leg_at_lem (suc n) (suc zero) h g = g
leg_at_lem (suc n) (suc (suc zero)) h g = g
leg_at_lem (suc n) (suc (suc (suc i))) h g = leg_at_lem n i (omega arith) (let e : suc (suc (suc i)) % 3 ≡ i % 3 = omega arith in rw e at g)

module _ (kind legs : ℕ) where
  fields_count : length (fields_of_kind kind legs) ≡ length (kind_fields kind) + cond (has_legs kind) (3 * legs) 0
  unfolding fields_of_kind
  fields_count = length-append (kind_fields kind) _ ∙ ap (λ n. length (kind_fields kind) + n) (go (has_legs kind))
    where
      go : (t : Bool) → length (cond t (times_over legs leg_fields) []) ≡ cond t (3 * legs) 0
      go true = legs_length_lem legs
      go false = refl

  module _ {n : ℕ} where
    pub count_with_legs : kind ≡ proposal_kind → n ≡ length (kind_fields kind) → n + 3 * legs ≡ length (fields_of_kind kind legs)
    count_with_legs k own = rw (own, fields_count, eq-eqb kind proposal_kind k) refl

    pub only_count : kind ≡ proposal_kind → n ≡ length (kind_fields kind) → n ≡ 1
    unfolding kind_fields
    only_count k own = own ∙ rw k refl

    pub count_without : (kind ≡ proposal_kind → ⊥) → n ≡ length (kind_fields kind) → n ≡ length (fields_of_kind kind legs)
    count_without k own = own ∙ rw (fields_count, ne_eqb kind proposal_kind k) (sym (add-zero (length (kind_fields kind))))

  module _ {f : Field} {n : ℕ} (i : ℕ) (own : n ≡ length (kind_fields kind)) where
    pub own_at : i < n → f ≡ get_or (kind_fields kind) i Kind → f ≡ get_or (fields_of_kind kind legs) i Kind
    unfolding fields_of_kind
    own_at h e = e ∙ sym (get_or-append (kind_fields kind) _ Kind i (rw own at h))

    pub leg_of_kind : n ≤ i → i < length (fields_of_kind kind legs) → f ≡ get_or leg_fields ((i - n) % 3) Kind → f ≡ get_or (fields_of_kind kind legs) i Kind
    unfolding fields_of_kind
    leg_of_kind h l e =
        let place : i ≡ length (kind_fields kind) + (i - n) = omega (arith, own) in
        rw place (sym (get_or-append-add (kind_fields kind) (cond (has_legs kind) (times_over legs leg_fields) []) (i - n) Kind ∙ sym (go (has_legs kind) (omega (arith, own, rw fields_count at l)))))
      where
        go : (t : Bool) → i - n < cond t (3 * legs) 0 → f ≡ get_or (cond t (times_over legs leg_fields) []) (i - n) Kind
        go true k = leg_at_lem legs (i - n) k e
        go false k = absurd (omega arith)

-- ---- a header
repeated_length : (f : Field) (n : ℕ) → length (replicate n f) ≡ n
repeated_length f zero = refl
repeated_length f (suc n) = rw (repeated_length f n) refl

pub holiday_at : (holidays members i : ℕ) → i < holidays → Holiday ≡ get_or (replicate holidays Holiday ++ replicate members Limit) i Kind
holiday_at zero members i h = absurd (omega arith)
holiday_at (suc n) members zero h = refl
holiday_at (suc n) members (suc i) h = holiday_at n members i (omega arith)

pub limit_at : (holidays members i : ℕ) → holidays ≤ i → i < holidays + members → Limit ≡ get_or (replicate holidays Holiday ++ replicate members Limit) i Kind
limit_at zero zero i h k = absurd (omega arith)
limit_at zero (suc m) zero h k = refl
limit_at zero (suc m) (suc i) h k = limit_at zero m i (omega arith) (omega arith)
limit_at (suc n) members zero h k = absurd (omega arith)
limit_at (suc n) members (suc i) h k = limit_at n members i (omega arith) (omega arith)

pub days_and_limits : (holidays members : ℕ) → length (replicate holidays Holiday ++ replicate members Limit) ≡ holidays + members
days_and_limits holidays members = length-append (replicate holidays Holiday) (replicate members Limit) ∙ rw (repeated_length Holiday holidays, repeated_length Limit members) refl

module _ {f : Field} where
  pub fixed_at : (holidays members i : ℕ) → i < 8 → f ≡ get_or fixed_fields i Kind → f ≡ get_or (fields_in (Header holidays members)) i Kind
  unfolding fields_in
  fixed_at holidays members i h e = e ∙ sym (get_or-append fixed_fields (replicate holidays Holiday ++ replicate members Limit) Kind i h)

  pub past_fixed : (holidays members i : ℕ) → 8 ≤ i → f ≡ get_or (replicate holidays Holiday ++ replicate members Limit) (i - 8) Kind → f ≡ get_or (fields_in (Header holidays members)) i Kind
  unfolding fields_in
  past_fixed holidays members i h e =
      let k : i ≡ 8 + (i - 8) = omega arith in
      e ∙ (sym (get_or-append-add fixed_fields (replicate holidays Holiday ++ replicate members Limit) (i - 8) Kind) ∙ ap
      (λ (x : ℕ). get_or (fixed_fields ++ (replicate holidays Holiday ++ replicate members Limit)) x Kind) (sym k))

pub header_length_lem : (holidays members : ℕ) → length (fields_in (Header holidays members)) ≡ 8 + (holidays + members)
unfolding fields_in
header_length_lem holidays members = length-append fixed_fields (replicate holidays Holiday ++ replicate members Limit) ∙ rw (days_and_limits holidays members) refl

pub after_first : {r : Field} (f : Field) (l : List Field) (i : ℕ) → (i ≡ 0 → ⊥) → r ≡ get_or l (i - 1) Kind → r ≡ get_or (f ∷ l) i Kind
after_first f l zero some e = absurd (some refl)
after_first f l (suc i) some e = let k : suc i - 1 ≡ i = omega arith in e ∙ rw k refl
