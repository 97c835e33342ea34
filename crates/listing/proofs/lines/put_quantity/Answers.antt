use mathlib.Core.Path.{refl}
use native.Mathlib.Omega.{arith}
use Rattle.listing_numbers.proofs.Writers.{exactly, within_room}
use Rattle.listing_words.proofs.Spelled.{worded}
use Rattle.listing_words.specs.Words.{quantity_words}
use Rattle.listing.proofs.lines.put_quantity.Goals as goal

pub returns-in-Letter : goal.returns-in-Letter
unfolding quantity_words
returns-in-Letter c = rw (← c.quantity_of-quantity.ensures, c.in-Letter.is)
    (within_room 80 _ (exactly 1 _ c.put_byte.ensures refl) refl (omega arith))

pub returns-in-Number : goal.returns-in-Number
unfolding quantity_words
returns-in-Number c = rw (← c.quantity_of-quantity.ensures, c.in-Number.is)
    (within_room 80 _ c.put_named.ensures refl (omega arith))

pub returns-in-StartDayNumber : goal.returns-in-StartDayNumber
unfolding quantity_words
returns-in-StartDayNumber c = rw (← c.quantity_of-quantity.ensures, c.in-StartDayNumber.is)
    (within_room 80 _ c.put_named-in-StartDayNumber.ensures refl (omega arith))

pub returns-in-HolidayNumber : goal.returns-in-HolidayNumber
unfolding quantity_words
returns-in-HolidayNumber c = rw (← c.quantity_of-quantity.ensures, c.in-HolidayNumber.is)
    (within_room 80 _ c.put_named-in-HolidayNumber.ensures refl (omega arith))

pub returns-in-KindNumber : goal.returns-in-KindNumber
unfolding quantity_words
returns-in-KindNumber c = rw (← c.quantity_of-quantity.ensures, c.in-KindNumber.is)
    (within_room 80 _ (worded c.kind_word.ensures c.put_word.ensures) refl (omega arith))

pub returns-in-SideNumber : goal.returns-in-SideNumber
unfolding quantity_words
returns-in-SideNumber c = rw (← c.quantity_of-quantity.ensures, c.in-SideNumber.is)
    (within_room 80 _ (worded c.side_word.ensures c.put_word-in-SideNumber.ensures) refl (omega arith))

pub returns-in-OrderKindNumber : goal.returns-in-OrderKindNumber
unfolding quantity_words
returns-in-OrderKindNumber c = rw (← c.quantity_of-quantity.ensures, c.in-OrderKindNumber.is)
    (within_room 80 _ (worded c.order_kind_word.ensures c.put_word-in-OrderKindNumber.ensures) refl (omega arith))

pub returns-in-Seconds : goal.returns-in-Seconds
unfolding quantity_words
returns-in-Seconds c = rw (← c.quantity_of-quantity.ensures, c.in-Seconds.is)
    (within_room 80 _ c.put_time.ensures refl (omega arith))

pub returns-in-ContractNumber : goal.returns-in-ContractNumber
unfolding quantity_words
returns-in-ContractNumber c = rw (← c.quantity_of-quantity.ensures, c.in-ContractNumber.is)
    (within_room 80 _ c.put_named_contract.ensures refl (omega arith))

pub returns-in-Kurus : goal.returns-in-Kurus
unfolding quantity_words
returns-in-Kurus c = rw (← c.quantity_of-quantity.ensures, c.in-Kurus.is)
    (within_room 80 _ c.put_priced.ensures refl (omega arith))
