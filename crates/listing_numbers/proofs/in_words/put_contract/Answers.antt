use mathlib.Core.Path.{◌≡◌, refl, sym}
use mathlib.Core.List.{append_assoc, append-nil}
use native.Mathlib.Omega.{arith}
use borrow.Author.Tests.{lt-ltb, le-ltb}
use Rattle.rules.specs.Ranges.{term_count}
use Rattle.rules.specs.ContractTerms.{term_of}
use Rattle.listing_numbers.specs.Numbers.{contract_text}
use Rattle.listing_numbers.proofs.Writers.{next, exactly, number, term_small, within_room}
use Rattle.listing_numbers.proofs.in_words.put_contract.Goals as goal

pub returns-then-contract-ge-TERM_COUNT : goal.returns-then-contract-ge-TERM_COUNT
unfolding contract_text
returns-then-contract-ge-TERM_COUNT c =
    rw (le-ltb c.args.contract term_count c.if-contract-ge-TERM_COUNT.true)
    (within_room 47 _ (number c.put_field-i.ensures) (sym (append-nil _)) (omega arith))

pub put_term-i-requires : goal.put_term-i-requires
put_term-i-requires c =
    let contract = c.args.contract in
    let e = term_small contract in
    let t : c.term_of-term.result.index ≡ (term_of contract).index = rw c.term_of-term.ensures refl in
    (omega (arith, c.put_bytes-i.ensures.after), omega arith, omega (arith, e, t))

pub returns : goal.returns
unfolding contract_text
returns c =
    let room = c.requires.0 in
    rw (lt-ltb c.args.contract term_count c.if-contract-ge-TERM_COUNT.false, ← c.term_of-term.ensures)
    (within_room 47 _ (next (next (next (number c.put_field-i.ensures) (exactly 2 _ c.put_bytes-i.ensures refl) (omega arith)) c.put_term-i.ensures (omega arith))
    (exactly 1 _ c.put_byte.ensures refl) (omega arith)) (simp append_assoc) (omega arith))
