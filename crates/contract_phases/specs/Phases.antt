-- The phase, at the close of a day, of each contract that has a term.
use Rattle.std.specs.Prelude.{ℕ, Bool, true, false, cond, List, ◌++◌, map, eqb, leb, ltb, get_or, take, Option, Some, None}
use Rattle.arith.specs.Lists.{from, kept}
use Rattle.rules.specs.declared.contract.ContractKind.{ContractKind}
use Rattle.rules.specs.declared.contract.ContractKind.TheVariants.{Year, Quarter, Month}
use Rattle.rules.specs.declared.contract.Term.{Term}
use Rattle.rules.specs.Ranges.{term_count}
use Rattle.rules.specs.Days.{Calendar}
use Rattle.rules.specs.ContractTerms.{term_of, term_closing_day, contracts_of, open_count}
use Rattle.rules.specs.declared.units.DayNo.{DayNo}
use Rattle.contract_phases.specs.declared.by_contract.Phase.{Phase}
use Rattle.contract_phases.specs.declared.by_contract.Phase.TheVariants.{Closed, Closing, Later}

-- Whether a contract closes on the day, and whether it closes on the day or later.
abbrev pub is_closing : Phase → Bool
is_closing Closed = false
is_closing Closing = true
is_closing Later = false

abbrev pub is_waiting : Phase → Bool
is_waiting Closed = false
is_waiting Closing = true
is_waiting Later = true

-- The phase that a number stands for in a column of numbers, and the number of a phase.
abbrev pub phase_numbered : ℕ → Phase
phase_numbered n = cond (eqb n 0) Closed (cond (eqb n 1) Closing Later)

abbrev pub number_of : Phase → ℕ
number_of Closed = 0
number_of Closing = 1
number_of Later = 2

-- A contract closed before the day, closes on it, or closes later.
abbrev pub phase_of : Option DayNo → ℕ → Phase
phase_of (Some x) d = cond (ltb x.0 d) Closed (cond (eqb x.0 d) Closing Later)
phase_of None d = Closed

-- The phase by a contract's first delivery day f: from `least` on it is still to close on the day, from `later` on also on the next
-- day.
abbrev pub phase_from : ℕ → ℕ → ℕ → Phase
phase_from f least later = cond (leb least f) (cond (leb later f) Later Closing) Closed

abbrev pub term_phase : Calendar → ℕ → Term → Phase
term_phase k d t = phase_of (term_closing_day k t) d

unfoldable pub phases : Calendar → ℕ → List Phase
phases k d = map (λ c. term_phase k d (term_of c)) (from 0 term_count)

-- What a column of phases says of a contract.
abbrev pub closes : List Phase → ℕ → Bool
closes column c = is_closing (get_or column c Closed)

abbrev pub waits : List Phase → ℕ → Bool
waits column c = is_waiting (get_or column c Closed)

-- The open contracts of a kind, by the column.
unfoldable pub open_in : List Phase → ContractKind → List ℕ
open_in column s = take (open_count s) (kept (waits column) (contracts_of s))

-- The open contracts of all kinds.
unfoldable pub all_open_in : List Phase → List ℕ
all_open_in column = open_in column Year ++ (open_in column Quarter ++ open_in column Month)

-- The closing contracts, by the column, in the paper's order.
unfoldable pub closing : List Phase → List ℕ
closing column = kept (closes column) (contracts_of Year ++ (contracts_of Quarter ++ contracts_of Month))
