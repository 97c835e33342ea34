-- Numbers in words: times, prices and names of contracts. A letter and a digit are their ASCII numbers.
use Rattle.std.specs.Prelude.{ℕ, ◌+◌, ◌/◌, ◌%◌, cond, List, [], ◌∷◌, ◌++◌}
use Rattle.rules.specs.declared.contract.ContractKind.{ContractKind}
use Rattle.rules.specs.declared.contract.ContractKind.TheVariants.{Year, Quarter, Month}
use Rattle.rules.specs.Ranges.{quarters_in_year, months_in_year}
use Rattle.rules.specs.ContractTerms.{has_term, term_of}
use Rattle.rules.specs.Text.{space, digit, decimal}

-- The last two digits.
unfoldable pub two_digits : ℕ → List ℕ
two_digits n = digit (n / 10 % 10) ∷ digit (n % 10) ∷ []

-- Seconds as hh:mm:ss.
unfoldable pub time_text : ℕ → List ℕ
time_text s = two_digits (s / 3600) ++ (58 ∷ two_digits (s / 60 % 60) ++ (58 ∷ two_digits (s % 60)))

-- Kuruş as liras and kuruş: 26000 is 260.00.
unfoldable pub price_text : ℕ → List ℕ
price_text k = decimal (k / 100) ++ (46 ∷ two_digits (k % 100))

-- " Q1" and "-03" of the nth quarter and month.
unfoldable pub quarter_text : ℕ → List ℕ
quarter_text n = space ∷ 81 ∷ digit (1 + n % quarters_in_year) ∷ []

unfoldable pub month_text : ℕ → List ℕ
month_text n = 45 ∷ two_digits (1 + n % months_in_year)

-- The nth year from a first year on, the nth quarter, the nth month: 2022, 2022 Q1, 2022-03.
unfoldable pub term_name : ℕ → ContractKind → ℕ → List ℕ
term_name first Year n = decimal (first + n)
term_name first Quarter n = decimal (first + n / quarters_in_year) ++ quarter_text n
term_name first Month n = decimal (first + n / months_in_year) ++ month_text n

abbrev pub contract_name : ℕ → ℕ → List ℕ
contract_name first c = term_name first (term_of c).kind (term_of c).index

-- " 18 (2022 Q1)"; a contract without a term has its number alone.
unfoldable pub contract_text : ℕ → ℕ → List ℕ
contract_text first c = (space ∷ decimal c) ++ cond (has_term c) (space ∷ 40 ∷ contract_name first c ++ (41 ∷ [])) []
