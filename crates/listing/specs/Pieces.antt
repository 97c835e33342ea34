-- Which bytes are listed as the next record: a whole record, one byte of no kind, or at the end what is left.
use Rattle.std.specs.Prelude.{ℕ, ◌≤◌, Bool, cond, List, eqb, length}
use Rattle.rules.specs.declared.event.Front.{Front}
use Rattle.rules.specs.declared.event.Front.TheVariants.{Whole, Cut, UnknownKind}
use Rattle.rules.specs.Records.{front_of}
use Rattle.listing.specs.declared.pieces.Piece.{Piece}
use Rattle.listing.specs.declared.pieces.Piece.TheVariants.{Record, More, End}

abbrev pub piece_of_front : Bool → ℕ → Front → Piece
piece_of_front last len (Whole m) = Record m
piece_of_front last len UnknownKind = Record 1
piece_of_front last len Cut = cond last (cond (eqb len 0) End (Record len)) More

unfoldable pub piece_of : Bool → List ℕ → Piece
piece_of last s = piece_of_front last (length s) (front_of s)

-- A record has a byte, and ends where the bytes do at the latest.
abbrev pub piece_fits : Piece → ℕ → Type 0
piece_fits (Record m) len = (1 ≤ m) × (m ≤ len)
piece_fits More len = Unit {0}
piece_fits End len = Unit {0}
