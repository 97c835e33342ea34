use borrow.Author.Rules.{rules}
use Rattle.rules.specs.Header.{u16_at, header_length, header_of}
use Rattle.listing_program.proofs.shell.ledger_of.Goals as goal

pub returns : goal.returns
unfolding u16_at header_length header_of
returns c = search rules
