-- The round trips of headers, as statements about what the functions promise.
use Rattle.std.specs.Prelude.{ℕ, ◌≤◌, List, ◌≡◌, T, ltb, length, take, Some, Ok}
use Rattle.arith.specs.Lists.{every, over}
use Rattle.rules.specs.Header.{write_header_spec}
use Rattle.header.specs.Journal.{header_from, header_columns, header_reading}
use Rattle.header.specs.declared.journal.JournalHeader.{JournalHeader}

-- What write_header wrote, whatever stands past it, read_header reads.
abbrev pub WrittenIsRead : Type 0
WrittenIsRead =
    (h : JournalHeader) (out : List ℕ) (k : ℕ) (after : List ℕ) → record { answer = Ok k; after = after } ≡ write_header_spec (header_from h) out
    → header_reading after ≡ Some (record { length = k; header = header_columns (header_from h) })

-- What read_header gives, write_header writes as the same bytes.
abbrev pub ReadIsWritten : Type 0
ReadIsWritten =
    (s out : List ℕ) (k : ℕ) (h : JournalHeader) → T (every (λ b. ltb b 256) s) → header_reading s ≡ Some (record { length = k; header = h }) → k ≤ length out
    → write_header_spec (header_from h) out ≡ record { answer = Ok k; after = over 0 (take k s) out }
