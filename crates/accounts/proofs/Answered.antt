-- An answer names the lowest cause that holds: each kind's causes stand in the order of their ranks, and decide takes the first.
use Prim.Native.Nat.{ℕ, ◌<◌}
use mathlib.Core.Path.{◌≡◌, refl, sym, ap, ◌∙◌}
use mathlib.Core.Bool.{true, false}
use mathlib.Core.List.Memᴰ
use mathlib.Core.List.{List, [], ◌∷◌, ◌++◌, append-nil}
use native.Mathlib.Omega.{arith}
use borrow.Author.Tests.{ne_eqb}
use Rattle.std.specs.Prelude.{Option, Some, None, Result, Ok, Err}
use Rattle.arith.proofs.Alls.{all_map, all_member}
use Rattle.arith.proofs.Tests.{never}
use Rattle.rules.specs.declared.refusal.Refusal.TheVariants.{TableUnsound, RecordUnsound}
use Rattle.rules.specs.declared.event.Event.{Event}
use Rattle.rules.specs.declared.event.Leg.{Leg}
use Rattle.rules.specs.Answers.{Outcome, reply_of, ranking, place_from, rank_of, rank, Cause, decide}
use Rattle.rules.specs.Ledger.{Tables, members}
use Rattle.rules.specs.Records.{legs_of, read_of}
use Rattle.rules.specs.Refusals.{unsound, kind_causes, kind_booked, event_spec, reading_spec, apply_spec}
use Rattle.rules.specs.Accounts.{is_accepted}
use Rattle.rules.proofs.Rising.{rising_cons, rising_short}
use Rattle.accounts.specs.Answered.{reading_causes, Exact, AnswersExactly}
use Rattle.accounts.proofs.EachKind.{Rising, rising_rest, all_above, never_accepted, kind_decides}
use Rattle.rules.specs.declared.refusal.Refusal.{Refusal}

-- one more cause, that does not hold, before those of an exact answer
exact_next : (causes : List Cause) (a : Result ℕ Refusal) (x : Refusal) → Exact causes a → Exact ((false, x) ∷ causes) a
exact_next causes a x e = record {
  holds = λ y r. Memᴰ.tail (e.holds y r);
  lowest = (λ _. refl, e.lowest);
  none_holds = λ r. (refl, e.none_holds r);
}

-- the causes of decide, with those of what it booked after them
decide_exact : {S : Type 0} (n : ℕ) (causes more : List Cause) (s : S) (o : Outcome S) → Rising n (causes ++ more) → Exact more o.answer → Exact (causes ++ more) (decide causes s o).answer
decide_exact n [] more s o r e = e
decide_exact n ((true, a) ∷ causes) more s o r e = record {
  holds = λ y r. Memᴰ.head (let same : a ≡ y = cc in rw same refl);
  lowest = (
    λ h. absurd (omega arith),
    all_map (λ cause. rank (Err a) < rank (Err cause.1)) (λ cause. rank (Err cause.1) < rank (Err a) → cause.0 ≡ false) (causes ++ more)
        (λ cause h l. absurd (omega arith)) (all_above (rank (Err a)) (causes ++ more) (rising_rest n (true, a) (causes ++ more) r)),
  );
  none_holds = λ h. never (sym h ∙ never_accepted a);
}
decide_exact n ((false, a) ∷ causes) more s o r e = exact_next (causes ++ more) _ a (decide_exact (rank (Err a)) causes more s o (rising_rest n (false, a) (causes ++ more) r) e)

-- what is booked is accepted, whatever it is
booked_exact : (a : Result ℕ Refusal) → is_accepted a ≡ true → Exact [] a
booked_exact a e = record { holds = λ x r. never (sym e ∙ rw r (never_accepted x)); lowest = tt; none_holds = λ _. tt }

event_exact : (t : Tables) (e : Event) (legs : List Leg) → Exact (kind_causes t e legs) (event_spec t e legs).answer
unfolding event_spec
event_exact t e legs =
    let k = kind_decides t e legs in
    rw (append-nil (kind_causes t e legs)) at
    (decide_exact (rank (Err RecordUnsound)) (kind_causes t e legs) [] t (kind_booked t e legs) (rw (append-nil (kind_causes t e legs)) k.in_order_holds) (booked_exact _ k.accepted))

reading_rising : (t : Tables) (x : Option Event) (legs : List Leg) → Rising (rank (Err TableUnsound)) (reading_causes t x legs)
unfolding rank_of ranking place_from
reading_rising t (Some e) legs = rising_cons (rank (Err TableUnsound)) (rank (Err RecordUnsound)) _ ∙ (kind_decides t e legs).in_order_holds
reading_rising t None legs = rising_cons (rank (Err TableUnsound)) (rank (Err RecordUnsound)) [] ∙ rising_short (rank (Err RecordUnsound) ∷ []) (omega arith)

reading_exact : (t : Tables) (x : Option Event) (legs : List Leg) → Exact (reading_causes t x legs) (reading_spec t x legs).answer
unfolding reading_spec
reading_exact t (Some e) legs = exact_next (kind_causes t e legs) _ RecordUnsound (event_exact t e legs)
reading_exact t None legs = record { holds = λ y r. Memᴰ.head (let same : RecordUnsound ≡ y = cc in rw same refl); lowest = (λ h. absurd (omega arith), tt); none_holds = λ e. never (sym e) }

pub answers_exactly : AnswersExactly
unfolding apply_spec rank_of ranking place_from
answers_exactly t bytes =
    let x = read_of (members t) bytes in
    decide_exact 0 ((unsound t, TableUnsound) ∷ []) _ t (reading_spec t x (legs_of bytes))
    (rising_cons 0 (rank (Err TableUnsound)) _ ∙ reading_rising t x (legs_of bytes)) (reading_exact t x (legs_of bytes))

-- ---- number 1 is for tables alone
pub one_is_unsound : (t : Tables) (bytes : List ℕ) → (reply_of (apply_spec t bytes).answer).number ≡ 1 → unsound t ≡ true
one_is_unsound t bytes e = go (apply_spec t bytes).answer refl e
  where
    go : (a : Result ℕ Refusal) → (apply_spec t bytes).answer ≡ a → (reply_of a).number ≡ 1 → unsound t ≡ true
    go (Ok n) same one = absurd (omega (arith, one))
    go (Err x) same one =
        let later = reading_causes t (read_of (members t) bytes) (legs_of bytes) in
        let Says : Cause → Type 0 = λ cause. (reply_of (Err cause.1)).number ≡ 1 → cause.0 ≡ true → unsound t ≡ true in
        all_member Says ((answers_exactly t bytes).holds x same) (
          λ _ q. q,
          all_map (λ cause. rank_of 1 < rank (Err cause.1)) Says later (λ cause h q _. absurd (omega (arith, ap rank_of q)))
              (all_above (rank_of 1) later (reading_rising t (read_of (members t) bytes) (legs_of bytes))),
        ) one refl
