use native.Mathlib.Omega.{arith}
use Rattle.rules.specs.Journal.{deal_text}
use Rattle.printing.proofs.Lines.{begun, field, signed_field, ended}
use Rattle.printing.proofs.put_deal.Goals as goal

pub returns : goal.returns
unfolding deal_text
returns c =
    let room = c.requires in
    let fits = c.ranges in
    let args = c.args in
    let two = field room (omega arith) (field room (omega arith) (begun
    c.put_byte-end.ensures)
    c.put_field-end.ensures)
    c.put_field-end-2.ensures in
    let three = field room (omega arith) two (signed_field
    args.lots
    fits.lots
    c.put_signed_field-end.ensures) in
    ended room (omega arith) (field room (omega arith) three c.put_field-end-3.ensures) c.put_byte.ensures
