-- A law of every call, from what each kind of record shows where the tables are not damaged, the event is sound and no cause holds.
use mathlib.Core.Path.{◌≡◌, refl, sym, ap, ◌∙◌}
use mathlib.Core.Bool.{true, false, cond}
use mathlib.Core.List.{List, [], ◌∷◌, map}
use Prim.Native.Nat.{ℕ, ◌<◌}
use native.Mathlib.Omega.{arith}
use lib.Dec.{ltb}
use borrow.Author.Tests.{ltb-true, ne_eqb}
use Rattle.std.specs.Prelude.{Option, Some, None, Result, Err}
use Rattle.arith.specs.Lists.{All, every}
use Rattle.arith.proofs.Alls.{all_map}
use Rattle.arith.proofs.Tests.{never, by_bool, and_left, and_right}
use Rattle.rules.specs.declared.refusal.Refusal.TheVariants.{TableUnsound, HeaderUnsound, RecordUnsound, TimeBelowLedger, MemberDefaulted, ContractNotOpen}
use Rattle.rules.specs.declared.refusal.Refusal.TheVariants.{PriceOutsideLimits, SixthSubmit, AboveLimit, CannotMatchInFull, BookFull, NoSuchOrder, NotAcceptable}
use Rattle.rules.specs.declared.refusal.Refusal.TheVariants.{NoReferencePrice, NoDefaultedLots, NoTaker, TotalPassed, NoLaterDay}
use Rattle.rules.specs.declared.event.Event.{Event}
use Rattle.rules.specs.declared.event.Event.TheVariants.{Submit, Cancel, DayLimits, Proposal, Default, CloseOut, CloseOfDay}
use Rattle.rules.specs.declared.event.Leg.{Leg}
use Rattle.rules.specs.Answers.{Outcome, reply_of, ranking, place_from, rank_of, rank, Cause, decide}
use Rattle.rules.specs.Header.{members_sound, rising}
use Rattle.rules.specs.Ledger.{Tables, members, booked}
use Rattle.rules.specs.Records.{event_sound, fields_of, legs_of, if_sound, read_of}
use Rattle.rules.specs.Matching.{submit_booked}
use Rattle.rules.specs.Synthetic.{proposal_booked}
use Rattle.rules.specs.CloseOfDay.{close_booked}
use Rattle.rules.specs.Default.{default_booked, close_out_booked}
use Rattle.rules.specs.Refusals.{unsound, kind_causes, kind_booked, event_spec, reading_spec, apply_spec}
use Rattle.rules.specs.Accounts.{is_accepted}
use Rattle.rules.proofs.SoundTables.{Undamaged, undamaged}
use Rattle.rules.specs.declared.refusal.Refusal.{Refusal}

-- no refusal is accepted
pub never_accepted : (x : Refusal) → is_accepted (Err x) ≡ false
never_accepted TableUnsound = refl
never_accepted HeaderUnsound = refl
never_accepted RecordUnsound = refl
never_accepted TimeBelowLedger = refl
never_accepted (MemberDefaulted n) = refl
never_accepted (ContractNotOpen n) = refl
never_accepted PriceOutsideLimits = refl
never_accepted SixthSubmit = refl
never_accepted AboveLimit = refl
never_accepted CannotMatchInFull = refl
never_accepted BookFull = refl
never_accepted NoSuchOrder = refl
never_accepted NotAcceptable = refl
never_accepted NoReferencePrice = refl
never_accepted NoDefaultedLots = refl
never_accepted NoTaker = refl
never_accepted TotalPassed = refl
never_accepted NoLaterDay = refl

-- ---- decide
abbrev pub NoneHolds : List Cause → Type 0
NoneHolds causes = All (λ cause. cause.0 ≡ false) causes

-- the first cause that holds refuses; where none does, what is booked decides
pub decide_shows : (P : Outcome Tables → Type 0) (t : Tables) (o : Outcome Tables) (causes : List Cause)
    → ((a : Result ℕ Refusal) → is_accepted a ≡ false → P (record { answer = a; after = t })) → (NoneHolds causes → P o) → P (decide causes t o)
decide_shows P t o [] f g = g tt
decide_shows P t o ((true, x) ∷ causes) f g = f (Err x) (never_accepted x)
decide_shows P t o ((false, x) ∷ causes) f g = decide_shows P t o causes f (λ q. g (refl, q))

decided_accepted : (causes : List Cause) (t : Tables) (o : Outcome Tables) → is_accepted (decide causes t o).answer ≡ true → NoneHolds causes × (decide causes t o ≡ o)
decided_accepted [] t o a = (tt, refl)
decided_accepted ((true, x) ∷ causes) t o a = never (sym a ∙ never_accepted x)
decided_accepted ((false, x) ∷ causes) t o a = let d = decided_accepted causes t o a in ((refl, d.0), d.1)

-- ---- what a reader answers is sound
pub read_sound : (n : ℕ) (bytes : List ℕ) (e : Event) → read_of n bytes ≡ Some e → event_sound n e (legs_of bytes) ≡ true
unfolding read_of
read_sound n bytes e =
    by_bool (λ b. cond b (if_sound n (legs_of bytes) (fields_of bytes)) None ≡ Some e → event_sound n e (legs_of bytes) ≡ true) (members_sound n) (λ _. go (fields_of bytes))
    (λ _ q. absurd (let z : ◌≡◌ {A = ℕ} 0 1 = cc in omega arith))
  where
    go : (f : Option Event) → if_sound n (legs_of bytes) f ≡ Some e → event_sound n e (legs_of bytes) ≡ true
    go (Some x) =
        by_bool (λ b. cond b (Some x) None ≡ Some e → event_sound n e (legs_of bytes) ≡ true) (event_sound n x (legs_of bytes))
        (λ f q. let same : x ≡ e = cc in rw (← same) f) (λ _ q. absurd (let z : ◌≡◌ {A = ℕ} 0 1 = cc in omega arith))
    go None = λ q. absurd (let z : ◌≡◌ {A = ℕ} 0 1 = cc in omega arith)

-- ---- the kinds of record
abbrev ranks : List Cause → List ℕ
ranks causes = map (λ cause. rank (Err cause.1)) causes

-- the ranks of causes rise, and are above n
abbrev pub Rising : ℕ → List Cause → Type 0
Rising n causes = rising (n ∷ ranks causes) ≡ true

pub rising_rest : (n : ℕ) (cause : Cause) (causes : List Cause) → Rising n (cause ∷ causes) → Rising (rank (Err cause.1)) causes
unfolding rising
rising_rest n cause causes r = and_right (every (ltb n) (ranks (cause ∷ causes))) (rising (ranks (cause ∷ causes))) r

each_above : (n : ℕ) (causes : List Cause) → every (ltb n) (ranks causes) ≡ true → All (λ cause. n < rank (Err cause.1)) causes
unfolding every
each_above n [] e = tt
each_above n (cause ∷ causes) e =
    let first = ltb n (rank (Err cause.1)) in
    (ltb-true n (rank (Err cause.1)) (and_left first (every (ltb n) (ranks causes)) e), each_above n causes (and_right first (every (ltb n) (ranks causes)) e))

pub all_above : (n : ℕ) (causes : List Cause) → Rising n causes → All (λ cause. n < rank (Err cause.1)) causes
unfolding rising
all_above n causes r = each_above n causes (and_left (every (ltb n) (ranks causes)) (rising (ranks causes)) r)

-- whatever the tables, the causes stand in the order of their ranks, after 3, and what is booked is accepted
pub record Decides (causes : List Cause) (o : Outcome Tables) : Type 0 where
  pub in_order_holds : Rising (rank (Err RecordUnsound)) causes
  pub accepted : is_accepted o.answer ≡ true

pub kind_decides : (t : Tables) (e : Event) (legs : List Leg) → Decides (kind_causes t e legs) (kind_booked t e legs)
unfolding rising every rank_of ranking place_from submit_booked proposal_booked default_booked close_out_booked close_booked booked
kind_decides t (Submit e) legs = record { in_order_holds = refl; accepted = refl }
kind_decides t (Cancel e) legs = record { in_order_holds = refl; accepted = refl }
kind_decides t (DayLimits e) legs = record { in_order_holds = refl; accepted = refl }
kind_decides t (Proposal n) legs = record { in_order_holds = refl; accepted = refl }
kind_decides t (Default m) legs = record { in_order_holds = refl; accepted = refl }
kind_decides t (CloseOut e) legs = record { in_order_holds = refl; accepted = refl }
kind_decides t (CloseOfDay s) legs = record { in_order_holds = refl; accepted = refl }

abbrev pub NoCause : Tables → Event → List Leg → Type 0
NoCause t e legs = NoneHolds (kind_causes t e legs)

-- ---- an accepted call: nothing is damaged, its event is sound, no cause holds, and it leads to what its kind books
pub record AcceptedCall (t : Tables) (bytes : List ℕ) (e : Event) : Type 0 where
  pub tables : Undamaged t
  pub event : event_sound (members t) e (legs_of bytes) ≡ true
  pub no_cause : NoCause t e (legs_of bytes)
  pub leads : apply_spec t bytes ≡ kind_booked t e (legs_of bytes)

pub accepted_call : (t : Tables) (bytes : List ℕ) (e : Event) → read_of (members t) bytes ≡ Some e → is_accepted (apply_spec t bytes).answer ≡ true → AcceptedCall t bytes e
unfolding apply_spec reading_spec event_spec
accepted_call t bytes e r a =
    let legs = legs_of bytes in
    let reply_of = decided_accepted ((unsound t, TableUnsound) ∷ []) t (reading_spec t (read_of (members t) bytes) legs) a in
    let is : reading_spec t (read_of (members t) bytes) legs ≡ decide (kind_causes t e legs) t (kind_booked t e legs) = ap (λ x. reading_spec t x legs) r in
    let kind = decided_accepted (kind_causes t e legs) t (kind_booked t e legs) (ap (λ o. is_accepted o.answer) (sym (reply_of.1 ∙ is)) ∙ a) in
    record { tables = undamaged t reply_of.0.0; event = read_sound (members t) bytes e r; no_cause = kind.0; leads = reply_of.1 ∙ is ∙ kind.1 }

-- ---- every call, with what its bytes say
module _ (P : Option Event → Tables → Outcome Tables → Type 0) (refused : (x : Option Event) (t : Tables) (a : Result ℕ Refusal) → is_accepted a ≡ false → P x t (record { answer = a; after = t }))
    (shows : (e : Event) (t : Tables) (legs : List Leg) → Undamaged t → event_sound (members t) e legs ≡ true → NoCause t e legs → P (Some e) t (kind_booked t e legs)) where
  reading_shows : (t : Tables) (x : Option Event) (bytes : List ℕ) → read_of (members t) bytes ≡ x → Undamaged t → P x t (reading_spec t x (legs_of bytes))
  unfolding reading_spec event_spec
  reading_shows t (Some e) bytes q u =
      decide_shows (P (Some e) t) t (kind_booked t e (legs_of bytes)) (kind_causes t e (legs_of bytes)) (refused (Some e) t)
      (λ none. shows e t (legs_of bytes) u (read_sound (members t) bytes e q) none)
  reading_shows t None bytes q u = refused None t (Err RecordUnsound) refl

  pub every_reading : (t : Tables) (bytes : List ℕ) → P (read_of (members t) bytes) t (apply_spec t bytes)
  unfolding apply_spec
  every_reading t bytes =
      let x = read_of (members t) bytes in
      decide_shows (P x t) t (reading_spec t x (legs_of bytes)) ((unsound t, TableUnsound) ∷ []) (refused x t)
      (λ sound. reading_shows t x bytes refl (undamaged t sound.0))

-- the same where it does not matter what they say
pub every_call : (P : Tables → Outcome Tables → Type 0) → ((t : Tables) (a : Result ℕ Refusal) → is_accepted a ≡ false → P t (record { answer = a; after = t }))
    → ((e : Event) (t : Tables) (legs : List Leg) → Undamaged t → event_sound (members t) e legs ≡ true → NoCause t e legs → P t (kind_booked t e legs))
    → (t : Tables) (bytes : List ℕ) → P t (apply_spec t bytes)
every_call P refused shows = every_reading (λ _. P) (λ _. refused) shows
