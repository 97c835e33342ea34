-- A journal that comes chunk by chunk is listed as it is listed as a whole, and its listing ends so.
use Rattle.std.specs.Prelude.{ℕ, ◌+◌, ◌≤◌, Bool, true, false, List, [], ◌++◌, ◌≡◌, length, take, drop}
use Rattle.rules.specs.Header.{header_of, header_length}
use Rattle.listing.specs.declared.pieces.Piece.TheVariants.{Record, End}
use Rattle.listing.specs.Pieces.{piece_of}
use Rattle.listing_words.specs.Fields.{is_none, fault_of, header_fault}
use Rattle.listing_words.specs.Words.{header_line, record_line}
use Rattle.streams.specs.declared.ending.Ending.TheVariants.{ReadToEnd, HeaderUnsound, RecordUnsound}
use Rattle.listing_chunks.specs.Listings.{record_lines, records_ending, listing_text, listing_ending}

-- Turns of a listing in a ledger of n members and this first year: the line of a sound header is printed, then bytes come behind those
-- that are left, or the line of the next record is printed. What is known after them: whether no more bytes come, which bytes came,
-- what was printed, how many records and bytes came before those left, and the bytes left.
pub data Turns (n first : ℕ) : Bool → List ℕ → List ℕ → ℕ → ℕ → List ℕ → Type 0 where
  start : (last : Bool) (s : List ℕ) → n ≡ (header_of s).members → first ≡ (header_of s).first_year → is_none (header_fault s) ≡ true
      → Turns n first last s (header_line s) 0 (header_length s) (drop (header_length s) s)
  read : {came printed left : List ℕ} {records base : ℕ} (more : List ℕ) (last : Bool) → Turns n first false came printed records base left
      → Turns n first last (came ++ more) printed records base (left ++ more)
  line : {last : Bool} {came printed left : List ℕ} {records base : ℕ} (m : ℕ) → Turns n first last came printed records base left → piece_of last left ≡ Record m
      → is_none (fault_of n (take m left)) ≡ true
      → Turns n first last came (printed ++ record_line n first (records + 1) base (take m left)) (records + 1) (base + m) (drop m left)

-- So far: what was printed, with the lines of what is left, is the listing, which ends as that of what is left.
abbrev pub ChunkByChunk : Type 0
ChunkByChunk =
    (n first : ℕ) (last : Bool) (came printed left : List ℕ) (records base : ℕ) → Turns n first last came printed records base left
    → (more : List ℕ) → (last ≡ true → more ≡ [])
    → (listing_text (came ++ more) ≡ printed ++ record_lines n first records base (left ++ more)) × (listing_ending (came ++ more) ≡ records_ending n (left ++ more))

-- Where no record is left, what was printed is the listing.
abbrev pub AllListed : Type 0
AllListed =
    (n first : ℕ) (last : Bool) (came printed left : List ℕ) (records base : ℕ) → Turns n first last came printed records base left → piece_of last left ≡ End
    → (more : List ℕ) → (last ≡ true → more ≡ []) → (listing_text (came ++ more) ≡ printed) × (listing_ending (came ++ more) ≡ ReadToEnd)

-- Where the next record is at fault, what was printed and its line are the listing, whatever comes behind.
abbrev pub ListedToFault : Type 0
ListedToFault =
    (n first : ℕ) (last : Bool) (came printed left : List ℕ) (records base m : ℕ) → Turns n first last came printed records base left → piece_of last left ≡ Record m
    → is_none (fault_of n (take m left)) ≡ false
    → (more : List ℕ) → (last ≡ true → more ≡ [])
    → (listing_text (came ++ more) ≡ printed ++ record_line n first (records + 1) base (take m left)) × (listing_ending (came ++ more) ≡ RecordUnsound)

-- Where a header is at fault that the bytes hold whole, or that the last bytes hold, its line is the listing.
abbrev pub HeaderAtFault : Type 0
HeaderAtFault =
    (last : Bool) (s : List ℕ) → is_none (header_fault s) ≡ false → (last ≡ false → header_length s ≤ length s)
    → (more : List ℕ) → (last ≡ true → more ≡ []) → (listing_text (s ++ more) ≡ header_line s) × (listing_ending (s ++ more) ≡ HeaderUnsound)
