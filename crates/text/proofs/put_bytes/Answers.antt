use Rattle.std.proofs.Common.{◌≡◌, ◌+◌, ◌-◌, length, refl, arith, drop-drop}
use Rattle.arith.specs.Lists.{over}
use Rattle.text.proofs.put_bytes.Goals as goal

pub returns : goal.returns
unfolding over
returns c =
    let a = c.args in
    let whole : a.place + length a.bytes.now - a.place ≡ length a.bytes.now = omega arith in
    record { after = refl; bytes = rw (whole, c.copy_from_slice.ensures.after, drop-drop (length a.bytes.now) a.place a.out.now) refl }
