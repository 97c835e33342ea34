use native.Mathlib.Omega.{arith}
use lib.ListN.{length-take}
use mathlib.Core.Path.{sym, ◌∙◌}
use Rattle.listing_program.proofs.Endings.{after_write, after_read, after_last, after_record_lem}
use Rattle.listing_program.proofs.shell.turn.Goals as goal

pub list_record-requires : goal.list_record-requires
list_record-requires g c =
    let e = rw c.in-Record.is at c.next_piece.ensures.1 in record {
      stands = (
        c.requires.0,
        c.requires.1,
        omega (arith, simp length-take at e.1),
        omega (
          arith,
          c.if-window-lt-ROOM.false,
          c.requires.0.within.printed,
        ),
      );
      first_year_bound = (c.requires.2, omega arith, omega arith);
    }

pub returns-then-window-lt-ROOM : goal.returns-then-window-lt-ROOM
returns-then-window-lt-ROOM g c =
    let a = c.args in
    (c.write_on.ensures.0, after_write a.ledger a.place a.input.now a.output.now c.write_on.result c.write_on.ensures.1)

pub returns-in-Record : goal.returns-in-Record
returns-in-Record g c =
    let a = c.args in
    let piece = c.next_piece.ensures in
    let is = c.in-Record.is in
    (c.list_record.ensures.0, after_record_lem a.ledger a.place a.input.now _ a.output.now _ c.list_record.result (rw is at piece.1).1 (sym piece.0 ∙ is) c.list_record.ensures.1)

pub returns-in-More : goal.returns-in-More
returns-in-More g c =
    let a = c.args in
    let none = sym c.next_piece.ensures.0 ∙ c.in-More.is in
    (c.read_on.ensures.0, after_read a.ledger a.place a.input.now _ a.output.now c.read_on.result none c.read_on.ensures.1)

pub returns-in-End : goal.returns-in-End
returns-in-End g c =
    let a = c.args in
    let none = sym c.next_piece.ensures.0 ∙ c.in-End.is in
    (tt, after_last a.ledger a.place a.input.now _ none c.finish.ensures)
