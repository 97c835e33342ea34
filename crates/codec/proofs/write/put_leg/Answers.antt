use mathlib.Core.Path.{refl}
use native.Mathlib.Omega.{arith}
use Rattle.arith.proofs.Beside.{over_next}
use Rattle.rules.specs.Fields.{bytes_by}
use Rattle.rules.specs.Header.{u16_bytes, u32_bytes}
use Rattle.codec.proofs.write.put_leg.Goals as goal

pub returns : goal.returns
unfolding bytes_by u16_bytes u32_bytes
returns c =
    let put-u322 = c.put_u32-2 in
    let put-u16 = c.put_u16 in
    let put-u32 = c.put_u32 in
    over_next _ _ _ _ _ _ _ (over_next _ _ _ _ _ _ _ put-u32.ensures put-u16.ensures refl (omega arith))
    put-u322.ensures refl (omega arith)
