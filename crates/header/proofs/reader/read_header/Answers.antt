use mathlib.Core.Bool.{false}
use mathlib.Core.Path.{◌≡◌}
use Rattle.rules.specs.Header.{begins_with_header}
use native.Mathlib.Omega.{arith}
use Rattle.rules.specs.Header.{header_length}
use Rattle.header.proofs.Headers.{begins_short, begins_other, begins_cut, begins_members, begins_holidays, begins_by, reading_unsound, reading_sound}
use Rattle.arith.proofs.Tests.{asked_true, asked_false}
use Rattle.header.proofs.reader.read_header.Goals as goal
use Rattle.header.proofs.reader.read_header.Goals.{then-bytes-lt-FIRST_HOLIDAY_BYTE-via-then-bytes-lt-FIRST_HOLIDAY_BYTE, then-bytes-lt-FIRST_HOLIDAY_BYTE-via-else-bytes-lt-FIRST_HOLIDAY_BYTE+then-not-begins_with_letters}
use Rattle.header.proofs.reader.read_header.Goals.{then-members-gt-MOST_MEMBERS-via-then-members-gt-MOST_MEMBERS, then-members-gt-MOST_MEMBERS-via-else-members-gt-MOST_MEMBERS+then-holiday_count-gt-MOST_HOLIDAYS}

pub returns-then-bytes-lt-FIRST_HOLIDAY_BYTE : goal.returns-then-bytes-lt-FIRST_HOLIDAY_BYTE
returns-then-bytes-lt-FIRST_HOLIDAY_BYTE c =
    let s = c.args.bytes.now in
    reading_unsound s (elim c.then-bytes-lt-FIRST_HOLIDAY_BYTE.branch as (λ _. begins_with_header s ≡ false) [
      | then-bytes-lt-FIRST_HOLIDAY_BYTE-via-then-bytes-lt-FIRST_HOLIDAY_BYTE w ↦ begins_short s w.if-bytes-lt-FIRST_HOLIDAY_BYTE.true
      | then-bytes-lt-FIRST_HOLIDAY_BYTE-via-else-bytes-lt-FIRST_HOLIDAY_BYTE+then-not-begins_with_letters w ↦
          begins_other s (asked_false w.begins_with_letters.ensures w.if-not-begins_with_letters.true)
    ])

pub returns-then-members-gt-MOST_MEMBERS : goal.returns-then-members-gt-MOST_MEMBERS
returns-then-members-gt-MOST_MEMBERS c =
    let s = c.args.bytes.now in
    reading_unsound s (elim c.then-members-gt-MOST_MEMBERS.branch as (λ _. begins_with_header s ≡ false) [
      | then-members-gt-MOST_MEMBERS-via-then-members-gt-MOST_MEMBERS w ↦ begins_members s (omega arith)
      | then-members-gt-MOST_MEMBERS-via-else-members-gt-MOST_MEMBERS+then-holiday_count-gt-MOST_HOLIDAYS w ↦ begins_holidays s (omega arith)
    ])

pub returns-then-bytes-length : goal.returns-then-bytes-length
unfolding header_length
returns-then-bytes-length c = reading_unsound _ (begins_cut c.args.bytes.now (omega arith))

pub fields_at-header-requires : goal.fields_at-header-requires
unfolding header_length
fields_at-header-requires c = omega arith

pub returns-then-not-is_header_sound : goal.returns-then-not-is_header_sound
unfolding header_length
returns-then-not-is_header_sound c =
    let s = c.args.bytes.now in
    reading_unsound s
    (begins_by s (omega arith) (asked_true c.begins_with_letters.ensures c.if-not-begins_with_letters.false) (omega (arith, c.u8_at-holiday_count.ensures, c.u8_at-members.ensures))
    c.fields_at-header.ensures c.is_header_sound.ensures c.if-not-is_header_sound.true)

pub returns : goal.returns
unfolding header_length
returns c =
    let s = c.args.bytes.now in
    rw c.fields_at-header.ensures
    (reading_sound s _
    (begins_by s (omega arith) (asked_true c.begins_with_letters.ensures c.if-not-begins_with_letters.false) (omega arith) c.fields_at-header.ensures c.is_header_sound.ensures
    c.if-not-is_header_sound.false)
    (omega arith))
