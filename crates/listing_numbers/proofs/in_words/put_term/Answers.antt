use mathlib.Core.Path.{refl}
use native.Mathlib.Omega.{arith}
use Rattle.listing_numbers.proofs.Writers.{next, digits, decimal_room, within_room}
use Rattle.listing_numbers.specs.Numbers.{term_name}
use Rattle.listing_numbers.proofs.in_words.put_term.Goals as goal

pub put_decimal-requires : goal.put_decimal-requires
put_decimal-requires c = decimal_room _ _ _ (omega arith) (omega arith)

pub put_decimal-i-requires : goal.put_decimal-i-requires
put_decimal-i-requires c = decimal_room _ _ _ (omega arith) (omega arith)

pub put_quarter-requires : goal.put_quarter-requires
put_quarter-requires c = let w = digits _ (omega arith) c.put_decimal-i.ensures in omega (arith, w.short)

pub put_decimal-i-requires-in-Month : goal.put_decimal-i-requires-in-Month
put_decimal-i-requires-in-Month c = decimal_room _ _ _ (omega arith) (omega arith)

pub put_month-requires : goal.put_month-requires
put_month-requires c = let w = digits _ (omega arith) c.put_decimal-i-in-Month.ensures in omega (arith, w.short)

pub returns-in-Year : goal.returns-in-Year
unfolding term_name
returns-in-Year c = rw c.in-Year.is (within_room 23 _ (digits _ (omega arith) c.put_decimal.ensures) refl (omega arith))

pub returns-in-Quarter : goal.returns-in-Quarter
unfolding term_name
returns-in-Quarter c = rw c.in-Quarter.is
    (within_room 23 _ (next (digits _ (omega arith) c.put_decimal-i.ensures) c.put_quarter.ensures
    (omega arith)) refl (omega arith))

pub returns-in-Month : goal.returns-in-Month
unfolding term_name
returns-in-Month c = rw c.in-Month.is
    (within_room 23 _ (next (digits _ (omega arith) c.put_decimal-i-in-Month.ensures) c.put_month.ensures
    (omega arith)) refl (omega arith))
