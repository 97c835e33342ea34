use mathlib.Core.Path.{sym, ◌∙◌}
use native.Mathlib.Omega.{arith}
use Rattle.rules.proofs.CalendarLaws.{open_by_count_lem, without_term}
use Rattle.contracts.proofs.InLedger.{numbered}
use Rattle.contracts.proofs.opening.is_open.Goals as goal

pub returns-then-contract-ge-TERM_COUNT : goal.returns-then-contract-ge-TERM_COUNT
returns-then-contract-ge-TERM_COUNT c = sym (without_term _ _ _ (omega arith))

pub is_open_term-requires : goal.is_open_term-requires
is_open_term-requires c = (c.requires, rw c.term_of.ensures (numbered _ (omega arith)))

pub returns : goal.returns
returns c = rw c.term_of.ensures at c.is_open_term.ensures ∙ sym (open_by_count_lem _ _ _ (omega arith))
