-- The legs that are read are the record's, in 12 places. Assumes nothing.
use Prim.Native.Nat.{ℕ, zero, suc, ◌+◌, ◌-◌, ◌≤◌, ◌<◌}
use mathlib.Core.Bool.{Bool, true, false, ◌&&◌}
use mathlib.Core.List.{List, [], ◌∷◌, ◌++◌, map, append-nil, append_assoc}
use mathlib.Core.Path.{◌≡◌, refl, sym, ap, subst, ◌∙◌}
use native.Mathlib.Nat.{zero-add}
use native.Mathlib.Numerals.{add-one}
use native.Mathlib.Omega.{arith}
use borrow.Author.Tests.{le-leb, lt-leb, eq-eqb, ne_eqb}
use lib.Dec.{eqb, leb}
use Rattle.std.specs.Prelude.{Some}
use lib.ListN.{length, get_or, set, take, replicate, length-append, length-replicate}
use lib.Seq.{set_at, take_all, take-append_seam, length-take-le}
use Rattle.arith.specs.Lists.{from, every}
use Rattle.arith.proofs.Appends.{from_more, map_append}
use Rattle.arith.proofs.Runs.{length_run}
use Rattle.arith.proofs.Tests.{never, le_or_lt, same_or, and_false}
use Rattle.rules.specs.declared.event.Event.TheVariants.{Proposal}
use Rattle.rules.specs.declared.event.Event.{Event}
use Rattle.rules.specs.declared.event.Leg.{Leg}
use Rattle.rules.specs.Ranges.{least_legs, most_legs}
use Rattle.rules.specs.Fields.{numbers_at}
use Rattle.rules.specs.Records.{leg_place, record_length, leg_at, legs_of, leg_sound, event_sound, kind_number, event_numbers, event_by_kind, fields_of}
use Rattle.record_kinds.specs.Numbers.{leg_count}
use Rattle.record_kinds.proofs.EachKind.{described}
use Rattle.codec.specs.Legs.{no_leg, in_places, held_legs, legs_to, Held}
use Rattle.codec.proofs.Fields.{Says, says}

-- The legs in their places are the legs.
pub placed : (legs : List Leg) → take (length legs) (in_places legs) ≡ legs
unfolding in_places
placed legs = take-append_seam legs (replicate (most_legs - length legs) no_leg)

pub places_length : (legs : List Leg) → length legs ≤ most_legs → length (in_places legs) ≡ most_legs
unfolding in_places
places_length legs h = omega (arith, length-append legs (replicate (most_legs - length legs) no_leg), length-replicate {A = Leg} (most_legs - length legs) no_leg)

pub none_placed : replicate most_legs no_leg ≡ in_places []
unfolding in_places
none_placed = refl

-- One leg more.
pub leg_placed : (f : ℕ → Leg) (i : ℕ) {g : Leg} {legs : List Leg} → i < most_legs → g ≡ f i → legs ≡ in_places (map f (from 0 i)) → set legs i g ≡ in_places (map f (from 0 (i + 1)))
unfolding in_places
leg_placed f i {g} {legs} h e l =
    let before = map f (from 0 i) in
    let sized : length before ≡ i = length_run f i in
    let more : map f (from 0 (i + 1)) ≡ before ++ (g ∷ []) = rw (add-one, from_more, zero-add) (map_append f (from 0 i) (i ∷ []) ∙ rw (← e) refl) in
    let gap : most_legs - i ≡ suc (most_legs - (i + 1)) = omega arith in
    rw (more, l, sized, gap, length-append, sized)
    (ap (λ k. set (before ++ (no_leg ∷ replicate (most_legs - (i + 1)) no_leg)) k g) (sym sized)
    ∙ set_at before no_leg (replicate (most_legs - (i + 1)) no_leg) g (length before) refl
    ∙ sym (append_assoc before (g ∷ []) (replicate (most_legs - (i + 1)) no_leg)))

pub legs_to_lem : (s : List ℕ) → get_or s 0 0 ≡ 4 → legs_of s ≡ legs_to s (get_or s 1 0)
unfolding legs_of
legs_to_lem s k = rw k refl

no_legs : (s : List ℕ) → (get_or s 0 0 ≡ 4 → ⊥) → legs_of s ≡ []
unfolding legs_of
no_legs s h = rw (ne_eqb (get_or s 0 0) 4 h) refl

-- ---- how many legs a record holds whole
module _ (s : List ℕ) where
  held_none : held_legs s ≡ [] → Held s 0
  unfolding from
  held_none e = record { legs = e; most = omega arith; inside = omega arith }

  pub held_other : (get_or s 0 0 ≡ 4 → ⊥) → Held s 0
  unfolding held_legs
  held_other h = held_none (rw (ne_eqb (get_or s 0 0) 4 h) refl)

  pub held_many : most_legs < get_or s 1 0 → Held s 0
  unfolding held_legs
  held_many h = held_none (rw (lt-leb (get_or s 1 0) most_legs h, and_false (eqb (get_or s 0 0) 4)) refl)

  pub held_uneven : (length s ≡ leg_place (get_or s 1 0) → ⊥) → Held s 0
  unfolding held_legs
  held_uneven h = held_none (rw (ne_eqb (length s) (leg_place (get_or s 1 0)) h, and_false (eqb (get_or s 0 0) 4 && leb (get_or s 1 0) most_legs)) refl)

  module _ (k : get_or s 0 0 ≡ 4) (m : get_or s 1 0 ≤ most_legs) (l : length s ≡ leg_place (get_or s 1 0)) where
    held_all : held_legs s ≡ legs_of s
    unfolding held_legs
    held_all = simp (eq-eqb _ _ k, le-leb _ _ m, eq-eqb _ _ l)

    pub held_whole : Held s (get_or s 1 0)
    held_whole = record { legs = held_all ∙ legs_to_lem s k; most = m; inside = omega arith }

    legs_held : take (get_or s 1 0) (in_places (held_legs s)) ≡ legs_of s
    legs_held =
        let counted : length (legs_of s) ≡ get_or s 1 0 = ap length (legs_to_lem s k) ∙ length_run (λ j. leg_at s (leg_place j)) (get_or s 1 0) in
        rw (held_all, ← counted) (placed (legs_of s))

-- ---- the ranges of what was read
pub many_legs : (n k : ℕ) (a : List Leg) → most_legs < k → event_sound n (Proposal k) a ≡ false
unfolding event_sound
many_legs n k a h = rw (lt-leb k most_legs h, and_false (leb least_legs k)) refl

pub few_legs : (n k : ℕ) (a : List Leg) → k < least_legs → event_sound n (Proposal k) a ≡ false
unfolding event_sound
few_legs n k a h = rw (lt-leb least_legs k h) refl

pub proposal_legless : (n k : ℕ) → false ≡ event_sound n (Proposal k) []
unfolding event_sound
proposal_legless n zero = refl
proposal_legless n (suc k) = rw (ne_eqb 0 (suc k) (λ e. omega arith), and_false (leb least_legs (suc k) && leb (suc k) most_legs)) refl

pub missing_legs : (n k : ℕ) (legs : List Leg) → length legs < k → event_sound n (Proposal k) (take k legs) ≡ false
unfolding event_sound
missing_legs n k legs h =
    rw (take_all k legs (omega arith), ne_eqb (length legs) k (λ e. omega arith), and_false (leb least_legs k && leb k most_legs)) refl

pub proposal_judged : (n k : ℕ) (legs : List Leg) → least_legs ≤ k → k ≤ most_legs → k ≤ length legs → event_sound n (Proposal k) (take k legs) ≡ every leg_sound (take k legs)
unfolding event_sound
proposal_judged n k legs a b h = rw (le-leb least_legs k a, le-leb k most_legs b, eq-eqb (length (take k legs)) k (length-take-le k legs h)) refl

-- ---- which events have legs beside them
pub is_proposal : (e : Event) → kind_number e ≡ 4 → e ≡ Proposal (leg_count e)
unfolding event_by_kind
is_proposal e h =
    let f : List ℕ = kind_number e ∷ event_numbers e ++ [] in
    let back : event_by_kind 4 f ≡ Some e = ap (λ k. event_by_kind k f) (sym h) ∙ (described e).back [] in
    let count : leg_count e ≡ get_or (event_numbers e) 0 0 = rw (eq-eqb (kind_number e) 4 h) refl in
    let same : Proposal (get_or (event_numbers e ++ []) 0 0) ≡ e = cc in
    sym same ∙ ap Proposal (ap (λ x. get_or x 0 0) (append-nil (event_numbers e)) ∙ sym count)

pub none_beside : (e : Event) → (kind_number e ≡ 4 → ⊥) → leg_count e ≡ 0
none_beside e h = rw (ne_eqb (kind_number e) 4 h) refl

is_legless : (e : Event) (l : List Leg) → (kind_number e ≡ 4 → ⊥) → [] ≡ take (leg_count e) l
is_legless e l h = sym (ap (λ n. take n l) (none_beside e h))

module _ (n : ℕ) (e : Event) (l : List Leg) {r : Bool} where
  pub judged_proposal : {count : ℕ} → kind_number e ≡ 4 → count ≡ leg_count e → r ≡ event_sound n (Proposal count) (take count l) → r ≡ event_sound n e (take (leg_count e) l)
  judged_proposal k c j = j ∙ rw c (ap (λ x. event_sound n x (take (leg_count e) l)) (sym (is_proposal e k)))

  pub judged_legless : (kind_number e ≡ 4 → ⊥) → r ≡ event_sound n e [] → r ≡ event_sound n e (take (leg_count e) l)
  judged_legless k j = j ∙ ap (event_sound n e) (is_legless e l k)

-- ---- the legs of a record that says an event
module _ (s : List ℕ) (e : Event) (y : Says s e) where
  -- It is a proposal of as many legs as its second byte says, or has none.
  pub says_proposal : kind_number e ≡ 4 → (get_or s 0 0 ≡ 4) × (length s ≡ leg_place (get_or s 1 0)) × (e ≡ Proposal (get_or s 1 0))
  unfolding record_length numbers_at
  says_proposal h =
      let numbers : event_numbers e ≡ get_or s 1 0 ∷ [] = rw h at y.numbers in
      let count : leg_count e ≡ get_or s 1 0 = rw (eq-eqb (kind_number e) 4 h, numbers) refl in
      (sym y.kind ∙ h, rw h at y.sized, is_proposal e h ∙ ap Proposal count)

  pub says_legless : (kind_number e ≡ 4 → ⊥) → legs_of s ≡ []
  says_legless h = no_legs s (λ k. h (y.kind ∙ k))

module _ (n : ℕ) (s : List ℕ) where
  abbrev placed_legs : List Leg
  placed_legs = in_places (held_legs s)

  -- The legs in their places are in range exactly if the record's are; those of a sound record are the record's.
  abbrev Judged : Event → Type 0
  Judged e =
      (event_sound n e (take (leg_count e) placed_legs) ≡ event_sound n e (legs_of s))
      × (event_sound n e (legs_of s) ≡ true → take (leg_count e) placed_legs ≡ legs_of s)

  proposed : (k : get_or s 0 0 ≡ 4) → length s ≡ leg_place (get_or s 1 0) → Judged (Proposal (get_or s 1 0))
  proposed k l =
      let count = get_or s 1 0 in
      le_or_lt count most_legs (λ m. let e = legs_held s k m l in (ap (event_sound n (Proposal count)) e, λ _. e))
      (λ m. let b = many_legs n count (legs_of s) m in (many_legs n count (take count placed_legs) m ∙ sym b, λ t. never (sym t ∙ b)))

  judged : (e : Event) → Says s e → Judged e
  judged e y =
      same_or (kind_number e) 4 (λ h. let p = says_proposal s e y h in subst Judged (sym p.2) (proposed p.0 p.1))
      (λ h. let none : take (leg_count e) placed_legs ≡ legs_of s = sym (is_legless e placed_legs h) ∙ sym (says_legless s e y h) in (ap (event_sound n e) none, λ _. none))

  pub places_judged : (e : Event) → fields_of s ≡ Some e → event_sound n e (take (leg_count e) placed_legs) ≡ event_sound n e (legs_of s)
  places_judged e h = (judged e (says s e h)).0

  pub places_said : (e : Event) → fields_of s ≡ Some e → event_sound n e (legs_of s) ≡ true → take (leg_count e) placed_legs ≡ legs_of s
  places_said e h t = (judged e (says s e h)).1 t

  -- The places that read_legs fills of a sound proposal hold its legs.
  pub legs_said : (k : ℕ) → fields_of s ≡ Some (Proposal k) → event_sound n (Proposal k) (legs_of s) ≡ true → held_legs s ≡ legs_of s
  legs_said k h t =
      let p = says_proposal s (Proposal k) (says s (Proposal k) h) refl in
      let count : k ≡ get_or s 1 0 = let q = p.2 in cc in
      le_or_lt (get_or s 1 0) most_legs (λ m. held_all s p.0 m p.1) (λ m. never (sym t ∙ many_legs n k (legs_of s) (rw count m)))
