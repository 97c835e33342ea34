-- A field is found at fault exactly where document 01's reader takes no record, or no header.
use Rattle.std.specs.Prelude.{ℕ, Bool, true, false, ◌&&◌, List, ◌≡◌, leb, length, Option, Some, None}
use Rattle.rules.specs.Header.{members_sound, begins_with_header}
use Rattle.rules.specs.Records.{front_length, read_of}
use Rattle.listing_words.specs.Fields.{is_none, fault_of, header_fault}
use Rattle.rules.specs.declared.event.Event.{Event}

abbrev pub is_sound : Option Event → Bool
is_sound (Some e) = true
is_sound None = false

-- In a ledger of 1 to 32 members a record is sound exactly if no field is at fault and no bytes are past its fields.
abbrev pub RecordExact : Type 0
RecordExact =
    (n : ℕ) (s : List ℕ) → members_sound n ≡ true → is_sound (read_of n s) ≡ is_none (fault_of n s) && leb (length s) (front_length s)

-- Bytes begin with a sound header exactly if no field of it is at fault.
abbrev pub HeaderExact : Type 0
HeaderExact = (s : List ℕ) → begins_with_header s ≡ is_none (header_fault s)
