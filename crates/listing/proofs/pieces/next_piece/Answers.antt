use mathlib.Core.Path.{refl}
use native.Mathlib.Omega.{arith}
use borrow.Author.Tests.{eq-eqb, ne_eqb}
use Rattle.arith.proofs.Tests.{asked_true, asked_false}
use Rattle.listing.specs.Pieces.{piece_of}
use Rattle.listing.proofs.Fronts.{front_fits}
use Rattle.listing.proofs.pieces.next_piece.Goals as goal

pub returns-then-not-is_last : goal.returns-then-not-is_last
unfolding piece_of
returns-then-not-is_last c = (
  rw (
    ← c.front_record.ensures,
    c.in-Cut.is,
    asked_false {b = c.args.is_last} refl
        c.if-not-is_last.true,
  ) refl,
  tt,
)

pub returns-then-bytes-eq0 : goal.returns-then-bytes-eq0
unfolding piece_of
returns-then-bytes-eq0 c = (
  rw (
    ← c.front_record.ensures,
    c.in-Cut.is,
    asked_true
        {b = c.args.is_last} refl c.if-not-is_last.false,
    eq-eqb _ _ c.if-bytes-eq0.true,
  ) refl,
  tt,
)

pub returns-in-Whole : goal.returns-in-Whole
unfolding piece_of
returns-in-Whole c = (
  rw (← c.front_record.ensures, c.in-Whole.is) refl,
  rw
      (← c.front_record.ensures, c.in-Whole.is) at (front_fits c.args.bytes.now),
)

pub returns-in-UnknownKind : goal.returns-in-UnknownKind
unfolding piece_of
returns-in-UnknownKind c = (
  rw (← c.front_record.ensures, c.in-UnknownKind.is) refl,
  (omega arith, rw (← c.front_record.ensures, c.in-UnknownKind.is) at (front_fits c.args.bytes.now)),
)

pub returns-else-bytes-eq0 : goal.returns-else-bytes-eq0
unfolding piece_of
returns-else-bytes-eq0 c =
    let some = c.if-bytes-eq0.false in (
      rw (
        ← c.front_record.ensures,
        c.in-Cut.is,
        asked_true
            {b = c.args.is_last} refl c.if-not-is_last.false,
        ne_eqb _ _ some,
      ) refl,
      (omega arith, omega arith),
    )
