use Prim.Native.Nat.{◌+◌, ◌-◌}
use mathlib.Core.Path.{◌≡◌, refl, ◌∙◌}
use native.Mathlib.Omega.{arith}
use Rattle.rules.specs.Header.{u16_bytes}
use Rattle.arith.proofs.Writes.{came_back}
use Rattle.big_endian.proofs.Numbers.{low_u16}
use Rattle.big_endian.proofs.put_u16.Goals as goal

pub returns : goal.returns
unfolding u16_bytes
returns c =
    let cut : c.args.at + 2 - c.args.at ≡ 2 = omega arith in
    let written : c.copy_from_slice.new.self ≡ u16_bytes c.args.n = c.copy_from_slice.ensures.after ∙ c.to_be_bytes.ensures ∙ low_u16 _ c.args.n (omega arith) in
    rw (cut, written) (came_back c.args.at 2 c.args.out.now (u16_bytes c.args.n) refl)
