-- A quotient rounded up, as std says it and as the rules do. Assumes nothing.
use Prim.Native.Nat.{ℕ, zero, suc, ◌+◌, ◌*◌, ◌-◌, ◌/◌, ◌%◌, ◌<◌, min}
use mathlib.Core.Path.{◌≡◌, sym, ap, ◌∙◌}
use native.Mathlib.Omega.{arith}
use native.Mathlib.Nat.{mod-lt, div-add-mod', mul-add-div_right, div-eq_of_lt, add-div_right}

-- r + (w - 1) holds w once, where r is not 0
part : (w r : ℕ) → r < w → (r + (w - 1)) / w ≡ min 1 r
part w zero h = let e : zero + (w - 1) ≡ w - 1 = omega arith in rw e (div-eq_of_lt (omega arith))
part w (suc r) h =
    let e : suc r + (w - 1) ≡ r + w = omega arith in
    rw e (add-div_right r (omega arith) ∙ rw (div-eq_of_lt {n = r} {m = w} (omega arith)) (omega arith))

pub ceiling_is : (y w : ℕ) → 0 < w → y / w + min 1 (y % w) ≡ (y + (w - 1)) / w
ceiling_is y w p =
    let e : y + (w - 1) ≡ y / w * w + (y % w + (w - 1)) = omega (arith, div-add-mod' y w) in
    sym (rw e (mul-add-div_right p (y / w) (y % w + (w - 1)) ∙ ap (λ n. y / w + n) (part w (y % w) (mod-lt y p))))
