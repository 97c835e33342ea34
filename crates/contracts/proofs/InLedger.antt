-- Which contracts have their months in the ledger's six years. Assumes nothing.
use Prim.Native.Nat.{ℕ, ◌%◌, ◌≤◌, ◌<◌}
use native.Mathlib.Omega.{arith}
use native.Mathlib.Nat.{mul-le-mul_left}
use Rattle.arith.proofs.Tests.{le_or_lt, same_or}
use Rattle.rules.specs.declared.contract.Term.{Term}
use Rattle.rules.specs.Ranges.{term_count}
use Rattle.rules.specs.ContractTerms.{months_in, term_of}
use Rattle.rules.specs.OtherForms.{nth}
use Rattle.rules.proofs.CalendarLaws.{term_year, term_quarter, term_month}
use Rattle.contracts.specs.InLedger.{InLedger}

-- Every contract that has a term is in the ledger.
pub numbered : (c : ℕ) → c < term_count → InLedger (term_of c)
numbered c h =
    same_or (c % 17) 0 (λ z. rw (term_year c z) (omega arith))
    (λ z. le_or_lt (c % 17) 4 (λ l. rw (term_quarter c (omega arith) l) (omega arith)) (λ l. rw (term_month c l) (omega arith)))

-- Each contract of the kind that delivers earlier than one in the ledger is in it too.
pub earlier : (t : Term) (i : ℕ) → i ≤ t.index → InLedger t → InLedger (nth t.kind i)
earlier t i l w = omega (arith, mul-le-mul_left (months_in t.kind) l)
