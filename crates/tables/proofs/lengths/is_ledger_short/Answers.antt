use Rattle.rules.specs.Ledger.{ledger_short}
use Rattle.arith.proofs.Tests.{tests}
use Rattle.tables.proofs.lengths.is_ledger_short.Goals as goal

pub returns-then-head-lt-HEAD_LENGTH : goal.returns-then-head-lt-HEAD_LENGTH
unfolding ledger_short
returns-then-head-lt-HEAD_LENGTH c = λ t. search tests

pub returns-then-prices-lt-PRICES_LENGTH : goal.returns-then-prices-lt-PRICES_LENGTH
unfolding ledger_short
returns-then-prices-lt-PRICES_LENGTH c = λ t. search tests

pub returns-then-lots-lt-ROWS_LENGTH : goal.returns-then-lots-lt-ROWS_LENGTH
unfolding ledger_short
returns-then-lots-lt-ROWS_LENGTH c = λ t. search tests

pub returns-then-value-lt-ROWS_LENGTH : goal.returns-then-value-lt-ROWS_LENGTH
unfolding ledger_short
returns-then-value-lt-ROWS_LENGTH c = λ t. search tests

pub returns : goal.returns
unfolding ledger_short
returns c = λ t. search tests
