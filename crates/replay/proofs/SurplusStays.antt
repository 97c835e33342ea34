-- Every call leaves surplus that is no place for an order as it was, and so does every list. Assumes nothing.
use Prim.Native.Nat.{ℕ, ◌≤◌, ◌<◌}
use mathlib.Core.Path.{◌≡◌, refl, subst₂, ◌∙◌}
use mathlib.Core.List.{List, [], ◌∷◌}
use native.Mathlib.Omega.{arith}
use lib.IntN.{ℤ}
use Rattle.rules.specs.Ranges.{contract_count, most_members}
use Rattle.rules.specs.Ledger.{Tables, with_lines, members, holiday_count}
use Rattle.rules.specs.Refusals.{kind_booked, apply_spec}
use Rattle.rules.specs.Accounts.{Column, lots, value, row, Call, call_spec, after}
use Rattle.accounts.proofs.EachKind.{every_call}
use Rattle.replay.specs.Surplus.{InUse, SurplusUntouched}
use Rattle.replay.specs.Replay.{SurplusStays}
use Rattle.replay.proofs.KindsReplay.{kind_replays}
use Rattle.replay.proofs.SurplusTables.{TablesSurplus}

-- surplus is kept, and the same places are surplus
record SameSurplus (t u : Tables) : Type 0 where
  kept : SurplusUntouched (members t) (holiday_count t) t u
  size : members u ≡ members t
  count : holiday_count u ≡ holiday_count t

stays_same : (t : Tables) → SameSurplus t t
stays_same t = record { kept = record { head = λ _ _. refl; prices = λ _ _. refl; rows = λ _ _ _ _ _. refl; book = λ _ _. refl }; size = refl; count = refl }

stays_of : (t v : Tables) → TablesSurplus (members t) (holiday_count t) t v → SameSurplus t v
stays_of t v a = record {
  kept = record { head = a.head.places; prices = a.prices.places; rows = rows; book = a.book };
  size = a.head.size;
  count = a.head.count;
}
  where
    rows : (x : Column) (c m : ℕ) → m < most_members → (c < contract_count → members t ≤ m) → row x v c m ≡ row x t c m
    rows lots c m h g = a.lots.places c m (h, g)
    rows value c m h g = a.value.places c m (h, g)

stays_then : {t u v : Tables} → SameSurplus t u → SameSurplus u v → SameSurplus t v
stays_then {t} {u} {v} a b = record {
  kept = record {
    head = λ i p. b.kept.head i (λ q. p (subst₂ (λ n k. InUse n k i) a.size a.count q)) ∙ a.kept.head i p;
    prices = λ i h. b.kept.prices i h ∙ a.kept.prices i h;
    rows = λ x c m h g. b.kept.rows x c m h (λ z. omega (arith, g z, a.size)) ∙ a.kept.rows x c m h g;
    book = λ i h. b.kept.book i h ∙ a.kept.book i h;
  };
  size = b.size ∙ a.size;
  count = b.count ∙ a.count;
}

apply_stays : (t : Tables) (bytes : List ℕ) → SameSurplus t (apply_spec t bytes).after
apply_stays = every_call (λ t o. SameSurplus t o.after) (λ t x q. stays_same t) (λ e t legs u q n. stays_of t (kind_booked t e legs).after ((kind_replays e t legs u q).leaves n).surplus)

-- a call's own line table is no part of the ledger
lines_lent : (l : List ℤ) (t : Tables) → SameSurplus t (with_lines l t)
lines_lent l t = record { kept = record { head = λ _ _. refl; prices = λ _ _. refl; rows = rows; book = λ _ _. refl }; size = refl; count = refl }
  where
    rows : (x : Column) (c m : ℕ) → m < most_members → (c < contract_count → members t ≤ m) → row x (with_lines l t) c m ≡ row x t c m
    rows lots c m h g = refl
    rows value c m h g = refl

after_stays : (calls : List Call) (t : Tables) → SameSurplus t (after t calls)
unfolding after
after_stays [] t = stays_same t
after_stays (call ∷ calls) t = stays_then (stays_then (lines_lent call.lines t) (apply_stays (with_lines call.lines t) call.bytes)) (after_stays calls (call_spec t call).after)

pub surplus_stays : SurplusStays
surplus_stays t calls = (after_stays calls t).kept
