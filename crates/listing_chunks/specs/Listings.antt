-- The listing of a whole journal: the header's line, then the line of each record in turn, up to the first that is at fault.
use Rattle.std.specs.Prelude.{ℕ, zero, suc, ◌+◌, Bool, true, false, cond, List, [], ◌++◌, eqb, length, take, drop}
use Rattle.rules.specs.Header.{header_of, header_length}
use Rattle.rules.specs.Journal.{next_length}
use Rattle.listing_words.specs.Fields.{is_none, fault_of, header_fault}
use Rattle.listing_words.specs.Words.{header_line, record_line}
use Rattle.streams.specs.declared.ending.Ending.{Ending}
use Rattle.streams.specs.declared.ending.Ending.TheVariants.{ReadToEnd, HeaderUnsound, RecordUnsound}

-- The lines of these bytes, in a ledger of n members and this first year, where so many records and bytes came before them.
unfoldable pub lines_within : ℕ → ℕ → ℕ → ℕ → ℕ → List ℕ → List ℕ
lines_within zero n first records base s = []
lines_within (suc fuel) n first records base s =
    let m = next_length s in
    cond (eqb (length s) 0) []
    (record_line n first (records + 1) base (take m s)
    ++ cond (is_none (fault_of n (take m s))) (lines_within fuel n first (records + 1) (base + m) (drop m s)) [])

-- No record is without a byte.
unfoldable pub record_lines : ℕ → ℕ → ℕ → ℕ → List ℕ → List ℕ
record_lines n first records base s = lines_within (length s) n first records base s

-- Whether no record of these bytes is at fault.
unfoldable pub sound_within : ℕ → ℕ → List ℕ → Bool
sound_within zero n s = true
sound_within (suc fuel) n s = let m = next_length s in cond (eqb (length s) 0) true (cond (is_none (fault_of n (take m s))) (sound_within fuel n (drop m s)) false)

unfoldable pub records_sound : ℕ → List ℕ → Bool
records_sound n s = sound_within (length s) n s

-- Behind a header that is at fault no record's place is known.
unfoldable pub listing_text : List ℕ → List ℕ
listing_text s =
    header_line s
    ++ cond (is_none (header_fault s)) (record_lines (header_of s).members (header_of s).first_year 0 (header_length s) (drop (header_length s) s)) []

-- ---- how a listing ends that is read and written
abbrev pub records_ending : ℕ → List ℕ → Ending
records_ending n s = cond (records_sound n s) ReadToEnd RecordUnsound

unfoldable pub listing_ending : List ℕ → Ending
listing_ending s = cond (is_none (header_fault s)) (records_ending (header_of s).members (drop (header_length s) s)) HeaderUnsound
