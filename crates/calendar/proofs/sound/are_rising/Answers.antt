use lib.Dec.{ltb}
use Rattle.std.proofs.Common.{rules, tests}
use Rattle.std.proofs.lemmas.List.Sorted.{answers_always}
use Rattle.calendar.proofs.Adjacent.{rising_adjacent}
use Rattle.calendar.proofs.sound.are_rising.Goals as goal

pub returns : goal.returns
returns c = rising_adjacent _ _ (c.is_sorted_by.ensures.cases ltb (answers_always _ _ _ (λ f a r g h. search (rules, tests))))
