use borrow.Author.Tests.{not-true, not-false}
use mathlib.Core.Path.{refl}
use native.Mathlib.Omega.{arith}
use Rattle.arith.proofs.Tests.{asked_true, asked_false}
use Rattle.rules.specs.Header.{header_length}
use Rattle.listing.proofs.HeaderSizes.{header_fits}
use Rattle.streams.proofs.Reading.{part_length}
use Rattle.listing_program.proofs.Turning.{first_stands}
use Rattle.listing_program.proofs.Endings.{header_finished, listing_records}
use Rattle.listing_program.proofs.shell.list_from.Goals as goal

pub list_records-requires : goal.list_records-requires
unfolding header_length
list_records-requires g c =
    let part = part_length c.args.window c.args.input.now in
    let fits = header_fits _ (asked_true c.put_header_line-listed.ensures.sound (not-false _ c.if-not-listed.false)) in
    let l = c.ledger_of-ledger.ensures in (
      first_stands c.args.window _ _ c.requires.0 (omega (arith, part, fits, l.size))
          (omega (arith, c.put_header_line-listed.ensures.written.short)),
      refl,
      l.year_fits,
      c.requires.1,
      omega (arith, c.put_header_line-listed.auto.out, c.requires.2),
    )

pub returns-then-not-listed : goal.returns-then-not-listed
returns-then-not-listed g c = header_finished (asked_false c.put_header_line-listed.ensures.sound (not-true _ c.if-not-listed.true)) c.finish.ensures

pub returns : goal.returns
returns g c =
    listing_records c.ledger_of-ledger.ensures.members
    (asked_true c.put_header_line-listed.ensures.sound (not-false _ c.if-not-listed.false)) c.list_records.ensures
