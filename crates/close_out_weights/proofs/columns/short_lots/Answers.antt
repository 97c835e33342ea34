use mathlib.Core.Path.{◌≡◌, refl, ap, ◌∙◌}
use mathlib.Core.Bool.{cond}
use native.Mathlib.Omega.{arith}
use lib.Dec.{ltb}
use lib.IntN.{ℤ, pos, negsuc, nat_abs}
use mir.Facts.{to_z-of_z}
use borrow.Author.Tests.{ltb-false}
use Rattle.std.specs.Int.{int_min}
use Rattle.arith.specs.Ints.{dn}
use Rattle.arith.proofs.Signed.{back_mag}
use Rattle.arith.proofs.Tests.{by_bool}
use Rattle.close_out_weights.proofs.columns.short_lots.Goals as goal

below : (z : ℤ) → nat_abs (int_min z (pos 0)) ≡ dn z
unfolding dn
below (pos n) = by_bool (λ b. nat_abs (cond b (pos 0) (pos n)) ≡ 0) (ltb 0 n) (λ e. refl) (λ e. omega (arith, ltb-false 0 n e))
below (negsuc n) = refl

pub returns : goal.returns
returns c =
    let net = c.args.net in
    c.unsigned_abs.ensures.value
    ∙ ap nat_abs (back_mag c.min.result c.min.type_inv ∙ c.min.ensures.value ∙ ap (λ z. int_min z (pos 0)) (to_z-of_z c.ranges.net))
    ∙ below net
