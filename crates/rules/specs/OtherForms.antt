-- What code says in other words than the paper. rules/proofs has the law that each says the same: CalendarLaws
-- (`term_number`, `contracts_of_lem`, `open_by_count_lem`) and HourLaws (`holds_hour_lem`).
use Rattle.std.specs.Prelude.{ℕ, ◌+◌, ◌*◌, ◌-◌, ◌/◌, ◌%◌, Bool, ◌&&◌, ◌||◌, eqb, ltb}
use Rattle.arith.specs.Lists.{count}
use Rattle.rules.specs.declared.contract.ContractKind.{ContractKind}
use Rattle.rules.specs.declared.contract.ContractKind.TheVariants.{Year, Quarter, Month}
use Rattle.rules.specs.declared.contract.Term.{Term}
use Rattle.rules.specs.Days.{Calendar}
use Rattle.rules.specs.Ranges.{contracts_in_year, years_in_span, quarters_in_span, months_in_span, quarters_in_year, months_in_year, months_in_quarter, first_quarter, january}
use Rattle.rules.specs.ContractTerms.{open_count, still_to_close}

-- ---- contracts of a kind
-- The ith contract of a kind by delivery.
abbrev pub nth : ContractKind → ℕ → Term
nth s i = record { kind = s; index = i }

-- The number of a quarter's first month.
abbrev pub first_month_of : ℕ → ℕ
first_month_of c = contracts_in_year * (c / contracts_in_year) + january + months_in_quarter * (c % contracts_in_year - first_quarter)

-- The number of a kind's ith contract by delivery, and how many of the kind a ledger has.
abbrev pub contract_of : ContractKind → ℕ → ℕ
contract_of Year i = contracts_in_year * i
contract_of Quarter i = contracts_in_year * (i / quarters_in_year) + first_quarter + i % quarters_in_year
contract_of Month i = contracts_in_year * (i / months_in_year) + january + i % months_in_year

abbrev pub contracts_in : ContractKind → ℕ
contracts_in Year = years_in_span
contracts_in Quarter = quarters_in_span
contracts_in Month = months_in_span

-- Open on a day, the same by counting those before it: how many of the kind deliver before its ith and are still to close; fewer than
-- the open count must be.
unfoldable pub ahead : Calendar → ℕ → ContractKind → ℕ → ℕ
ahead k d s i = count (λ j. still_to_close k d (nth s j)) i

unfoldable pub open_by_count : Calendar → ℕ → Term → Bool
open_by_count k d t = still_to_close k d t && ltb (ahead k d t.kind t.index) (open_count t.kind)

-- ---- which contracts hold a month: its year, its quarter and the month itself
abbrev pub year_of : ℕ → ℕ
year_of i = contracts_in_year * (i / months_in_year)

abbrev pub quarter_of : ℕ → ℕ
quarter_of i = contracts_in_year * (i / months_in_year) + first_quarter + i % months_in_year / months_in_quarter

abbrev pub month_of : ℕ → ℕ
month_of i = contracts_in_year * (i / months_in_year) + january + i % months_in_year

unfoldable pub holds_month : ℕ → ℕ → Bool
holds_month c i = eqb (year_of i) c || (eqb (quarter_of i) c || eqb (month_of i) c)
