use Prim.Native.Nat.{◌+◌, ◌-◌, ◌≤◌, ◌<◌}
use mathlib.Core.Path.{◌≡◌, refl}
use native.Mathlib.Omega.{arith}
use Rattle.close_out.proofs.Changes.{more_bought, more_sold}
use Rattle.close_out.proofs.booking.change_line.Goals as goal

pub returns-then-loss-gain : goal.returns-then-loss-gain
returns-then-loss-gain c =
    let a = c.args in
    let e : c.abs_diff.result ≡ a.gain - a.loss = omega (arith, c.abs_diff.ensures, c.if-loss-gain.true) in
    let most : c.abs_diff.result ≤ a.gain + a.loss = omega arith in
    record { line = rw e (more_bought a.contract a.price.0 a.member a.gain a.loss c.if-loss-gain.true); terms = (refl, refl, refl, most) }

pub returns-else-loss-gain : goal.returns-else-loss-gain
returns-else-loss-gain c =
    let a = c.args in
    let less : a.gain < a.loss = omega (arith, c.requires, c.if-loss-gain.false) in
    let e : c.abs_diff.result ≡ a.loss - a.gain = omega (arith, c.abs_diff.ensures, c.if-loss-gain.false) in
    let most : c.abs_diff.result ≤ a.gain + a.loss = omega arith in
    record { line = rw e (more_sold a.contract a.price.0 a.member a.gain a.loss less); terms = (refl, refl, refl, most) }
