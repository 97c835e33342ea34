-- Which contracts a ledger has.
use Rattle.std.specs.Prelude.{◌+◌, ◌*◌, ◌≤◌}
use Rattle.rules.specs.declared.contract.Term.{Term}
use Rattle.rules.specs.Ranges.{months_in_span}
use Rattle.rules.specs.ContractTerms.{months_in}

-- A contract whose months lie in the ledger's six years.
abbrev pub InLedger : Term → Type 0
InLedger t = months_in t.kind * t.index + months_in t.kind ≤ months_in_span
