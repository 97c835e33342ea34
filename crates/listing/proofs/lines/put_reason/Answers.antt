use mathlib.Core.Path.{refl}
use native.Mathlib.Omega.{arith}
use Rattle.listing_numbers.proofs.Writers.{next, exactly, number, nothing, within_room}
use Rattle.listing.proofs.lines.put_reason.Goals as goal

pub returns-in-Passes : goal.returns-in-Passes
returns-in-Passes c = rw c.in-Passes.is (within_room 118 _ (nothing _ _) refl (omega arith))

pub returns-in-Cut : goal.returns-in-Cut
returns-in-Cut c = rw c.in-Cut.is (within_room 118 _ (exactly 8 _ c.put_bytes.ensures refl) refl (omega arith))

pub returns-in-OutOfRange : goal.returns-in-OutOfRange
returns-in-OutOfRange c = rw c.in-OutOfRange.is (within_room 118 _ c.put_out_of_range.ensures refl (omega arith))

pub returns-in-NoBusinessDay : goal.returns-in-NoBusinessDay
returns-in-NoBusinessDay c = rw c.in-NoBusinessDay.is
    (within_room 118 _ (next (number c.put_field-i.ensures) (exactly 19 _ c.put_bytes-in-NoBusinessDay.ensures refl)
    (omega arith)) refl (omega arith))

pub returns-in-OnStartDay : goal.returns-in-OnStartDay
returns-in-OnStartDay c = rw c.in-OnStartDay.is
    (within_room 118 _ (next (number c.put_field-i-in-OnStartDay.ensures) (exactly 17 _ c.put_bytes-in-OnStartDay.ensures refl)
    (omega arith)) refl (omega arith))
