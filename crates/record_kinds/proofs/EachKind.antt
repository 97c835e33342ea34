-- What holds of each kind of record, with an entry for each: its event and its numbers, there and back. Assumes nothing.
use Prim.Native.Nat.{ℕ, suc, ◌≤◌, ◌<◌}
use mathlib.Core.Bool.{Bool, true, false, cond, ◌&&◌}
use mathlib.Core.List.{List, [], ◌∷◌, ◌++◌, map}
use mathlib.Core.Path.{◌≡◌, refl, sym, ap, ◌∙◌}
use native.Mathlib.Omega.{arith}
use borrow.Author.Tests.{leb-true, ne_eqb}
use lib.ListN.{length, get_or, take, drop}
use lib.Seq.{length-take-le, get_or-take}
use Rattle.std.specs.Prelude.{Option, Some, None}
use Rattle.arith.specs.Lists.{from}
use Rattle.arith.proofs.Runs.{run_of}
use Rattle.arith.proofs.Tests.{same_or, and_left, and_right}
use Rattle.rules.specs.declared.event.Event.TheVariants.{Submit, Cancel, DayLimits, Proposal, Default, CloseOut, CloseOfDay}
use Rattle.rules.specs.declared.event.Event.{Event}
use Rattle.rules.specs.declared.event.OrderKind.TheVariants.{Resting, Oeye, Teye}
use Rattle.rules.specs.declared.event.OrderKind.{OrderKind}
use Rattle.rules.specs.declared.order.Side.TheVariants.{Buy, Sell}
use Rattle.rules.specs.declared.order.Side.{Side}
use Rattle.rules.specs.Fields.{proposal_kind, has_legs, kind_fields}
use Rattle.rules.specs.Sides.{side_number, side_of}
use Rattle.rules.specs.Records.{side_sound, order_kind_number, order_kind_of, order_kind_sound, kind_number, event_numbers, submission_of, submit_of, event_by_kind}
use Rattle.rules.proofs.Sides.{side_again}
use Rattle.record_kinds.specs.Numbers.{most_fields, leg_count}
use Rattle.record_kinds.proofs.ByKind.{no_fields, no_kind}

-- ---- a side and an order kind by their numbers
side_back : (x : Side) → (side_of (side_number x) ≡ x) × (side_sound (side_number x) ≡ true)
side_back Buy = (refl, refl)
side_back Sell = (refl, refl)

order_kind_back : (x : OrderKind) → (order_kind_of (order_kind_number x) ≡ x) × (order_kind_sound (order_kind_number x) ≡ true)
order_kind_back Resting = (refl, refl)
order_kind_back Oeye = (refl, refl)
order_kind_back Teye = (refl, refl)

order_kind_again : (b : ℕ) → b ≤ 2 → order_kind_number (order_kind_of b) ≡ b
order_kind_again b h = same_or b 0 (λ e. rw e refl) (λ n. same_or b 1 (λ e. rw e refl) (λ m. let e : b ≡ 2 = omega arith in rw e refl))

-- ---- an event's numbers: one for each field of its kind, and they give the event, whatever stands past them
pub record Described (e : Event) : Type 0 where
  pub counted : length (event_numbers e) ≡ length (kind_fields (kind_number e))
  pub some : 0 < length (kind_fields (kind_number e))
  pub few : length (kind_fields (kind_number e)) ≤ most_fields
  pub back : (rest : List ℕ) → event_by_kind (kind_number e) (kind_number e ∷ event_numbers e ++ rest) ≡ Some e

pub described : (e : Event) → Described e
unfolding kind_fields event_by_kind
described (Submit e) =
    record { counted = refl; some = omega arith; few = omega arith; back = λ rest. rw ((side_back e.side).1, (order_kind_back e.kind).1, (side_back e.side).0, (order_kind_back e.kind).0) refl }
described (Cancel e) = record { counted = refl; some = omega arith; few = omega arith; back = λ rest. refl }
described (DayLimits e) = record { counted = refl; some = omega arith; few = omega arith; back = λ rest. refl }
described (Proposal k) = record { counted = refl; some = omega arith; few = omega arith; back = λ rest. refl }
described (Default m) = record { counted = refl; some = omega arith; few = omega arith; back = λ rest. refl }
described (CloseOut e) = record { counted = refl; some = omega arith; few = omega arith; back = λ rest. refl }
described (CloseOfDay s) = record { counted = refl; some = omega arith; few = omega arith; back = λ rest. refl }

-- No kind has more fields.
pub few_fields : (k : ℕ) → length (kind_fields k) ≤ most_fields
unfolding kind_fields
few_fields k =
    same_or k 1 (λ e. rw e (omega arith)) (λ n₁. same_or k 2 (λ e. rw e (omega arith)) (λ n₂. same_or k 3 (λ e. rw e (omega arith))
    (λ n₃. same_or k 4 (λ e. rw e (omega arith)) (λ n₄. same_or k 5 (λ e. rw e (omega arith)) (λ n₅. same_or k 6 (λ e. rw e (omega arith))
    (λ n₆. same_or k 7 (λ e. rw e (omega arith)) (λ n₇. omega (arith, ap length (no_fields k n₁ n₂ n₃ n₄ n₅ n₆ n₇)))))))))

-- A proposal has one number, how many legs stand beside it; no other event has legs.
pub legs_or_none : {P : Type 0} (e : Event) → (kind_number e ≡ proposal_kind → length (event_numbers e) ≡ 1 → P) → (has_legs (kind_number e) ≡ false → leg_count e ≡ 0 → P) → P
unfolding kind_fields
legs_or_none e some none =
    same_or (kind_number e) proposal_kind (λ k. some k ((described e).counted ∙ rw k refl))
    (λ n. let no = ne_eqb (kind_number e) proposal_kind n in none no (rw no refl))

-- ---- numbers that give an event are the event's
pub nothing : {P : Type 0} {e : Event} → None ≡ Some e → P
nothing h = absurd (let z : ◌≡◌ {A = ℕ} 0 1 = cc in omega arith)

pub if_true : (b : Bool) (r : Option Event) (e : Event) → cond b r None ≡ Some e → (b ≡ true) × (r ≡ Some e)
if_true true r e h = (refl, h)
if_true false r e h = nothing h

-- The n numbers after the first.
after_first : (n : ℕ) (f : List ℕ) → n < length f → map (λ i. get_or f (suc i) 0) (from 0 n) ≡ take n (drop 1 f)
after_first n [] h = absurd (omega arith)
after_first n (x ∷ f) h =
    let sized : length (take n f) ≡ n = length-take-le n f (omega arith) in
    rw sized at (run_of (λ i. get_or f i 0) (take n f) 0 (λ i g. sym (get_or-take n f i 0 (rw sized at g))))

-- An event with the kind k and the numbers of f after the first.
abbrev Numbered : ℕ → List ℕ → Event → Type 0
Numbered k f e = (kind_number e ≡ k) × (event_numbers e ≡ take (length (kind_fields k)) (drop 1 f))

pub numbers_of_event : (k : ℕ) (f : List ℕ) (e : Event) → event_by_kind k f ≡ Some e → length (kind_fields k) < length f → Numbered k f e
unfolding event_by_kind kind_fields from
numbers_of_event k f e h l =
    same_or k 1 (λ g. of g (submit (rw g at h) (rw g at l)))
    (λ n₁. same_or k 2 (λ g. of g (is (rw g at h) (refl, after_first 3 f (rw g at l))))
    (λ n₂. same_or k 3 (λ g. of g (is (rw g at h) (refl, after_first 3 f (rw g at l))))
    (λ n₃. same_or k 4 (λ g. of g (is (rw g at h) (refl, after_first 1 f (rw g at l))))
    (λ n₄. same_or k 5 (λ g. of g (is (rw g at h) (refl, after_first 1 f (rw g at l))))
    (λ n₅. same_or k 6 (λ g. of g (is (rw g at h) (refl, after_first 2 f (rw g at l))))
    (λ n₆. same_or k 7 (λ g. of g (is (rw g at h) (refl, after_first 1 f (rw g at l))))
    (λ n₇. nothing (no_kind f k n₁ n₂ n₃ n₄ n₅ n₆ n₇ ∙ h))))))))
  where
    of : {j : ℕ} → k ≡ j → Numbered j f e → Numbered k f e
    of g x = rw g x

    is : {j : ℕ} {x : Event} → Some x ≡ Some e → Numbered j f x → Numbered j f e
    is {j} {x} w y = let same : x ≡ e = cc in rw same at y

    submit : submit_of f ≡ Some e → 7 < length f → Numbered 1 f e
    submit w l =
        let side = side_sound (get_or f 4 0) in
        let order = order_kind_sound (get_or f 5 0) in
        let both = if_true (side && order) (Some (Submit (submission_of f))) e w in
        let one = side_again (get_or f 4 0) (leb-true (get_or f 4 0) 1 (and_left side order both.0)) in
        let two = order_kind_again (get_or f 5 0) (leb-true (get_or f 5 0) 2 (and_right side order both.0)) in
        is {j = 1} both.1 (refl, rw (one, two) (after_first 7 f l))
