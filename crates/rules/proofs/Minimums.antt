-- Minimums are rounded up, so that together they suffice for the lots. Assumes nothing.
use Prim.Native.Nat.{ℕ, ◌+◌, ◌*◌, ◌-◌, ◌≤◌, ◌<◌}
use mathlib.Core.Path.{◌≡◌}
use mathlib.Core.List.{List, [], ◌∷◌, map}
use native.Mathlib.Omega.{arith}
use native.Mathlib.Nat.{mod-lt, div-add-mod', le_of_mul-le-mul_right, mul-add, add-mul}
use lib.ListN.{length, length-map}
use Rattle.rules.specs.Default.{sum_of, minimum, minimums}
use Rattle.rules.proofs.Netting.{sum_cons, sum_none}

minimum_covers : (l w x : ℕ) → 0 < w → l * x ≤ minimum l w x * w
unfolding minimum
minimum_covers l w x p = let y = l * x + (w - 1) in omega (arith, div-add-mod' y w, mod-lt y p)

minimums_cover : (l w : ℕ) (ws : List ℕ) → 0 < w → l * sum_of ws ≤ sum_of (map (minimum l w) ws) * w
minimums_cover l w [] p = rw sum_none (omega arith)
minimums_cover l w (x ∷ ws) p =
    let xs = map (minimum l w) ws in
    rw (sum_cons x ws, sum_cons (minimum l w x) xs)
    (omega (arith, mul-add l x (sum_of ws), add-mul (minimum l w x) (sum_of xs) w, minimum_covers l w x p, minimums_cover l w ws p))

pub minimums_suffice : (l : ℕ) (ws : List ℕ) → 0 < sum_of ws → l ≤ sum_of (minimums l ws)
unfolding minimums
minimums_suffice l ws p = le_of_mul-le-mul_right (minimums_cover l (sum_of ws) ws p) p

pub minimums_length : (l : ℕ) (ws : List ℕ) → length (minimums l ws) ≡ length ws
unfolding minimums
minimums_length l ws = length-map ws (minimum l (sum_of ws))
