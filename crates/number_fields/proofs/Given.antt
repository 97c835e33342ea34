-- What a row says that gives an event. Assumes nothing.
use Prim.Native.Nat.{ℕ, ◌≤◌}
use mathlib.Core.Bool.{not, ◌||◌}
use mathlib.Core.List.{List}
use mathlib.Core.Path.{◌≡◌, refl, sym, ◌∙◌}
use native.Mathlib.Omega.{arith}
use borrow.Author.Tests.{leb-true, eq-eqb}
use lib.Dec.{leb}
use lib.ListN.{length, get_or, take, drop}
use lib.Seq.{get_or-take, get_or-drop}
use Rattle.std.specs.Prelude.{Some}
use Rattle.arith.specs.Lists.{from}
use Rattle.rules.specs.declared.event.Event.{Event}
use Rattle.rules.specs.Fields.{proposal_kind, has_legs, kind_fields}
use Rattle.rules.specs.Ranges.{most_legs}
use Rattle.rules.specs.Records.{kind_number, event_numbers, event_by_kind}
use Rattle.record_kinds.specs.Numbers.{leg_count}
use Rattle.record_kinds.proofs.EachKind.{if_true, few_fields, legs_or_none, numbers_of_event}
use Rattle.number_fields.specs.RecordFields.{record_fields, kind_field, proposal_legs_field, row_event, event_in, first_legs, legs_in}

-- The row begins with the event's kind and numbers; the first of a proposal's counts its legs.
pub record Given (f : List ℕ) (e : Event) : Type 0 where
  pub kind : kind_number e ≡ get_or f kind_field 0
  pub numbers : event_numbers e ≡ take (length (kind_fields (kind_number e))) (drop 1 f)
  pub counted : kind_number e ≡ proposal_kind → leg_count e ≡ get_or f proposal_legs_field 0
  pub few : leg_count e ≤ most_legs

module _ (f : List ℕ) (e : Event) where
  first_number : kind_number e ≡ proposal_kind → event_numbers e ≡ take (length (kind_fields (kind_number e))) (drop 1 f) → leg_count e ≡ get_or f proposal_legs_field 0
  unfolding kind_fields
  first_number four n =
      let numbers : event_numbers e ≡ take 1 (drop 1 f) = n ∙ rw four refl in
      rw (eq-eqb (kind_number e) proposal_kind four, numbers) (get_or-take 1 (drop 1 f) 0 0 (omega arith) ∙ get_or-drop 1 f 0 0)

  pub given : record_fields ≤ length f → event_in f ≡ Some e → Given f e
  unfolding row_event
  given h w =
      let k = get_or f kind_field 0 in
      let both = if_true (not (has_legs k) || leb (get_or f proposal_legs_field 0) most_legs) (event_by_kind k f) e w in
      let n = numbers_of_event k f e both.1 (omega (arith, few_fields k)) in
      let numbers : event_numbers e ≡ take (length (kind_fields (kind_number e))) (drop 1 f) = rw n.0 n.1 in
      let few : leg_count e ≤ most_legs =
      legs_or_none e
      (λ four one. rw (first_number four numbers) (leb-true (get_or f proposal_legs_field 0) most_legs (rw (eq-eqb k proposal_kind (sym n.0 ∙ four)) at both.0)))
      (λ no none. omega (arith, none)) in
      record { kind = n.0; numbers = numbers; counted = λ four. first_number four numbers; few = few }

  pub legs_given : Given f e → legs_in f ≡ first_legs f (leg_count e)
  unfolding legs_in first_legs from
  legs_given g =
      rw (← g.kind) (legs_or_none e (λ four one. rw (g.counted four) (rw (eq-eqb (kind_number e) proposal_kind four) refl)) (λ no none. rw (none, no) refl))
