-- How a listing ends, by what its parts answer. Assumes nothing.
use Prim.Native.Nat.{ℕ, ◌+◌, ◌-◌, ◌≤◌}
use mathlib.Core.Bool.{Bool, true, false}
use mathlib.Core.List.{List}
use mathlib.Core.Path.{◌≡◌, refl}
use native.Mathlib.Omega.{arith}
use lib.ListN.{length, take, drop}
use lib.Seq.{take-take}
use Rattle.std.specs.Prelude.{Result, Ok, Err}
use Rattle.rules.specs.Header.{header_of}
use Rattle.listing.specs.declared.pieces.Piece.TheVariants.{Record, More, End}
use Rattle.listing.specs.declared.lines.Listed.{Listed}
use Rattle.listing.specs.Lines.{ListedAs}
use Rattle.listing.specs.Pieces.{piece_of}
use Rattle.listing_words.specs.Fields.{is_none, fault_of, header_fault}
use Rattle.listing_words.specs.Words.{record_line}
use Rattle.streams.specs.declared.ending.Ending.{Ending}
use Rattle.streams.specs.declared.ending.Ending.TheVariants.{ReadToEnd, HeaderUnsound}
use Rattle.streams.specs.declared.window.Window.{Window}
use Rattle.streams.specs.Windows.{held, failed, finished}
use Rattle.streams.proofs.Reading.{part_length}
use Rattle.listing_program.specs.declared.shell.Ledger.{Ledger}
use Rattle.listing_program.specs.declared.shell.Place.{Place}
use Rattle.listing_program.specs.Runs.{RecordsEnd, read_to_end, record_unsound, not_written, not_read, listed, wrote, read, line_listed, written_on, read_on, turned, header_ends, ListingEnds, header_unsound, records, listing_not_written, listing_not_read}

-- The record as `list_record` is handed it.
pub listed_part : (i m : ℕ) (s : List ℕ) (n first number base : ℕ) {most start : ℕ} {entry exit : List ℕ} {r : Listed}
    → ListedAs most start (record_line n first number base (take (i + m - i) (drop i s))) (fault_of n (take (i + m - i) (drop i s))) entry exit r
    → ListedAs most start (record_line n first number base (take m (drop i s))) (fault_of n (take m (drop i s))) entry exit r
listed_part i m s n first number base w = let same : i + m - i ≡ m = omega arith in rw same at w

-- ---- a turn
module _ (l : Ledger) (p : Place) (input : List ℕ) where
  ends_failed : (ending : Ending) → failed ending → RecordsEnd l.members p.window.is_last (held p.window input) ending
  ends_failed ending (true, e) = rw e not_read
  ends_failed ending (false, e) = rw e not_written

  pub after_write : (output : List ℕ) (x : Result Place Ending) → written_on p.window p.records p.base x → turned l p input input output output x
  after_write output (Ok q) h = wrote h.0 h.1 refl refl
  after_write output (Err ending) h = ends_failed ending h

  pub after_read : (exit output : List ℕ) (x : Result Place Ending) → piece_of p.window.is_last (held p.window input) ≡ More → read_on p.window p.records p.base input exit x
      → turned l p input exit output output x
  after_read exit output (Ok q) piece h = read piece h.0 h.1 refl
  after_read exit output (Err ending) piece h = ends_failed ending h

  pub after_last : (ending : Ending) → piece_of p.window.is_last (held p.window input) ≡ End → finished ReadToEnd ending
      → RecordsEnd l.members p.window.is_last (held p.window input) ending
  after_last ending none (true, e) = rw e (read_to_end none)
  after_last ending none (false, e) = rw e not_written

  by_record : (m : ℕ) (output after : List ℕ) (x : Result Place Ending) → piece_of p.window.is_last (held p.window input) ≡ Record m
      → line_listed l p m (take m (held p.window input)) output after x → turned l p input input output after x
  by_record m output after (Ok q) piece h = listed m piece h refl
  by_record m output after (Err ending) piece (bad, (true, e)) = rw e (record_unsound m piece bad)
  by_record m output after (Err ending) piece (bad, (false, e)) = rw e not_written

  pub after_record_lem : (m : ℕ) (output after : List ℕ) (x : Result Place Ending) → m ≤ length (held p.window input) → piece_of p.window.is_last (held p.window input) ≡ Record m
      → line_listed l p m (take m (drop p.window.from input)) output after x → turned l p input input output after x
  after_record_lem m output after x fits piece h =
      let same = take-take m (p.window.end - p.window.from) (drop p.window.from input) (omega (arith, fits, part_length p.window input)) in
      by_record m output after x piece (rw (← same) at h)

  pub turn_ended : (exit output after : List ℕ) (x : Result Place Ending) {ending : Ending} → turned l p input exit output after x → x ≡ Err ending
      → RecordsEnd l.members p.window.is_last (held p.window input) ending
  turn_ended exit output after x h q = rw q at h

-- ---- the whole
pub header_finished : {s : List ℕ} {ending : Ending} → is_none (header_fault s) ≡ false → finished HeaderUnsound ending → ListingEnds s ending
header_finished bad (true, e) = rw e (header_unsound bad)
header_finished bad (false, e) = rw e listing_not_written

pub header_ended : (x : Result Window Ending) {ending : Ending} → header_ends x → x ≡ Err ending → failed ending
header_ended x h q = rw q at h

pub listing_failed : {s : List ℕ} {ending : Ending} → failed ending → ListingEnds s ending
listing_failed (true, e) = rw e listing_not_read
listing_failed (false, e) = rw e listing_not_written

pub listing_records : {s : List ℕ} {n : ℕ} {ending : Ending} → n ≡ (header_of s).members → is_none (header_fault s) ≡ true
    → ((last : Bool) × (left : List ℕ) × RecordsEnd n last left ending) → ListingEnds s ending
listing_records e sound x = records x.0 x.1 sound (rw e at x.2)
