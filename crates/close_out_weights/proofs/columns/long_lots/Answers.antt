use mathlib.Core.Path.{◌≡◌, refl, ap, ◌∙◌}
use mathlib.Core.Bool.{cond}
use native.Mathlib.Omega.{arith}
use lib.Dec.{ltb}
use lib.IntN.{ℤ, pos, negsuc, nat_abs}
use mir.Facts.{to_z-of_z}
use borrow.Author.Tests.{ltb-false}
use Rattle.std.specs.Int.{int_max}
use Rattle.arith.specs.Ints.{up}
use Rattle.arith.proofs.Signed.{back_mag}
use Rattle.arith.proofs.Tests.{by_bool}
use Rattle.close_out_weights.proofs.columns.long_lots.Goals as goal

above : (z : ℤ) → nat_abs (int_max z (pos 0)) ≡ up z
unfolding up
above (pos n) = by_bool (λ b. nat_abs (cond b (pos n) (pos 0)) ≡ n) (ltb 0 n) (λ e. refl) (λ e. omega (arith, ltb-false 0 n e))
above (negsuc n) = refl

pub returns : goal.returns
returns c =
    let net = c.args.net in
    c.unsigned_abs.ensures.value
    ∙ ap nat_abs (back_mag c.max.result c.max.type_inv ∙ c.max.ensures.value ∙ ap (λ z. int_max z (pos 0)) (to_z-of_z c.ranges.net))
    ∙ above net
