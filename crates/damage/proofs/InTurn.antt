-- A contract's numbers in the order in which the code tests them. Assumes nothing.
use Rattle.std.proofs.Common.{◌≡◌, ℕ, ◌+◌, ◌*◌, Bool, true, false, ◌&&◌, ltb, leb, List, [], ◌∷◌, get_or, refl, ◌∙◌, add-one}
use lib.Dec.{leb-suc-suc}
use Rattle.arith.specs.Lists.{all_of}
use Rattle.arith.proofs.Tests.{and_true}
use Rattle.rules.specs.Ranges.{most_price}
use Rattle.rules.specs.Refusals.{contract_prices_sound}
use Rattle.damage.specs.Orders.{between}

pub up_to : (a b : ℕ) → ltb a (b + 1) ≡ leb a b
up_to a b = rw (add-one b) (leb-suc-suc a b)

in_turn : (a l h m d v : Bool) → all_of (a ∷ h ∷ l ∷ m ∷ (d && v) ∷ []) ≡ all_of (a ∷ (l && h) ∷ m ∷ d ∷ v ∷ [])
unfolding all_of
in_turn true true true true d v = and_true (d && v) ∙ rw (and_true v)
in_turn true true true false d v = refl
in_turn true true false m d v = refl
in_turn true false true m d v = refl
in_turn true false false m d v = refl
in_turn false l h m d v = refl

pub contract_in_turn : (run : ℕ) (l : List ℕ)
    → all_of (leb (get_or l 0 0) most_price ∷ leb (get_or l 2 0) most_price ∷ between 1 (get_or l 2 0 + 1) (get_or l 1 0) ∷ leb (get_or l 3 0) run ∷ between (get_or l 3 0) (most_price * get_or l 3 0 + 1)
    (get_or l 4 0) ∷ []) ≡ contract_prices_sound run l
unfolding contract_prices_sound
contract_in_turn run l =
    let low = get_or l 1 0 in
    let high = get_or l 2 0 in
    let m = get_or l 3 0 in
    let v = get_or l 4 0 in
    rw (up_to low high, up_to v (most_price * m))
    (in_turn (leb (get_or l 0 0) most_price) (leb 1 low && leb low high) (leb high most_price) (leb m run) (leb m v) (leb v (most_price * m)))
