use native.Mathlib.Omega.{arith}
use native.Mathlib.Nat.{add-zero}
use native.Mathlib.Numerals.{add-one, add-two, add-three}
use Prim.Native.Nat.{◌*◌}
use lib.ListN.{length-set}
use Rattle.rules.specs.Ledger.{line_width}
use Rattle.rules.specs.Ledger.{line_places}
use Rattle.deal_lines.specs.Lines.{line_of}
use Rattle.arith.proofs.Signed.{rd_pos, back}
use Rattle.arith.proofs.Writes.{stored}
use Rattle.deal_lines.proofs.lines.print_line.Goals as goal

pub bounds-lines-at-2 : goal.bounds-lines-at-2
bounds-lines-at-2 c = simp length-set (omega arith)

pub bounds-lines-at-3 : goal.bounds-lines-at-3
bounds-lines-at-3 c = simp length-set (omega arith)

pub bounds-lines-at-4 : goal.bounds-lines-at-4
bounds-lines-at-4 c = simp length-set (omega arith)

pub returns : goal.returns
returns c =
    let args = c.args in
    let with-sign = c.with_sign in
    let l = args.line in
    let at = args.i * line_width in
    rw (
      rd_pos l.member (omega arith),
      rd_pos l.contract (omega arith),
      rd_pos l.price.0 (omega arith),
      back with-sign.result.0 (omega (arith, with-sign.ensures.1)),
      with-sign.ensures.0,
      add-zero at,
      add-one at,
      add-two at,
      add-three at,
    )
    (stored (line_places (line_of l)) args.lines.now at (omega arith))
