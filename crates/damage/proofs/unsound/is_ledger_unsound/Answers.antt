use Rattle.std.proofs.Common.{◌≡◌, Bool, true, false, arith}
use Rattle.calendar.proofs.FirstYears.{first_year_holds}
use Rattle.rules.specs.Ledger.{Tables, with_head, with_prices, with_rows, with_book, zero_tables, ledger_short}
use Rattle.rules.specs.Refusals.{head_sound, prices_sound}
use Rattle.rules.proofs.SoundTables.{Long, long_enough, SoundHead, head_gives}
use Rattle.damage.proofs.Sound.{year_fails, ledger_short_lem, head_fails, prices_fail, lots_fail, value_fails, book_decides}
use Rattle.arith.proofs.Tests.{asked_true, asked_false}
use Rattle.damage.proofs.unsound.is_ledger_unsound.Goals as goal

-- What the lengths and the head give is said of the lists alone: any other tables do.
long_at : {b : Bool} (of : Tables → Tables) → ((t : Tables) → b ≡ ledger_short (of t)) → b ≡ false → Long (of zero_tables)
long_at of e n = long_enough (of zero_tables) (asked_false (e zero_tables) n)

gives : {b : Bool} (of : Tables → Tables) → ((t : Tables) → b ≡ head_sound (of t)) → b ≡ true → SoundHead (of zero_tables)
gives of e n = head_gives (of zero_tables) (asked_true (e zero_tables) n)

pub returns-then-is_ledger_short : goal.returns-then-is_ledger_short
returns-then-is_ledger_short c = λ t. ledger_short_lem _ (asked_true (c.is_ledger_short.ensures t) c.if-is_ledger_short.true)

pub bounds-head-0 : goal.bounds-head-0
bounds-head-0 c = omega (arith, (long_at _ c.is_ledger_short.ensures c.if-is_ledger_short.false).head)

pub returns-then-not-is_first_year_sound : goal.returns-then-not-is_first_year_sound
returns-then-not-is_first_year_sound c = λ t. year_fails _ (asked_false c.is_first_year_sound.ensures c.if-not-is_first_year_sound.true)

pub span_of-span-requires : goal.span_of-span-requires
span_of-span-requires c = first_year_holds _ (asked_true c.is_first_year_sound.ensures c.if-not-is_first_year_sound.false)

pub is_head_sound-requires : goal.is_head_sound-requires
is_head_sound-requires c =
    let long = long_at _ c.is_ledger_short.ensures c.if-is_ledger_short.false in
    (long.head, first_year_holds _ (asked_true c.is_first_year_sound.ensures c.if-not-is_first_year_sound.false), c.span_of-span.ensures)

pub returns-then-not-is_head_sound : goal.returns-then-not-is_head_sound
returns-then-not-is_head_sound c =
    let a = c.args in
    λ t. head_fails _
    (asked_false (c.is_head_sound.ensures (with_prices a.prices.now (with_rows a.lots.now a.value.now (with_book a.book.now t)))) c.if-not-is_head_sound.true)

pub bounds-head-1 : goal.bounds-head-1
bounds-head-1 c = omega (arith, (long_at _ c.is_ledger_short.ensures c.if-is_ledger_short.false).head)

pub bounds-head-6 : goal.bounds-head-6
bounds-head-6 c = omega (arith, (long_at _ c.is_ledger_short.ensures c.if-is_ledger_short.false).head)

pub are_prices_sound-requires : goal.are_prices_sound-requires
are_prices_sound-requires c = ((long_at _ c.is_ledger_short.ensures c.if-is_ledger_short.false).prices, (gives _ c.is_head_sound.ensures c.if-not-is_head_sound.false).run≤)

pub returns-then-not-are_prices_sound : goal.returns-then-not-are_prices_sound
unfolding prices_sound
returns-then-not-are_prices_sound c = λ t. prices_fail _ (asked_false c.are_prices_sound.ensures c.if-not-are_prices_sound.true)

pub are_rows_within-requires : goal.are_rows_within-requires
are_rows_within-requires c =
    let h = gives _ c.is_head_sound.ensures c.if-not-is_head_sound.false in
    ((long_at _ c.is_ledger_short.ensures c.if-is_ledger_short.false).lots, h.members_range.to, omega arith)

pub returns-then-not-are_rows_within : goal.returns-then-not-are_rows_within
returns-then-not-are_rows_within c = λ t. lots_fail _ (asked_false c.are_rows_within.ensures c.if-not-are_rows_within.true)

pub overflow_mul-run : goal.overflow_mul-run
overflow_mul-run c = omega (arith, (gives _ c.is_head_sound.ensures c.if-not-is_head_sound.false).run≤)

pub are_rows_within-requires-2 : goal.are_rows_within-requires-2
are_rows_within-requires-2 c =
    let h = gives _ c.is_head_sound.ensures c.if-not-is_head_sound.false in
    ((long_at _ c.is_ledger_short.ensures c.if-is_ledger_short.false).value, h.members_range.to, omega arith)

pub returns-then-not-are_rows_within-2 : goal.returns-then-not-are_rows_within-2
returns-then-not-are_rows_within-2 c = λ t. value_fails _ (asked_false c.are_rows_within-2.ensures c.if-not-are_rows_within-2.true)

pub is_book_sound-requires : goal.is_book_sound-requires
is_book_sound-requires c =
    let h = gives _ c.is_head_sound.ensures c.if-not-is_head_sound.false in
    let long = long_at _ c.is_ledger_short.ensures c.if-is_ledger_short.false in
    record { head_length_in_bounds = (long.head, c.span_of-span.ensures, long.book); accepted_submits_place_bound = (h.accepted≤, h.orders≤) }

pub returns : goal.returns
unfolding prices_sound
returns c =
    let a = c.args in
    let prices = asked_true c.are_prices_sound.ensures c.if-not-are_prices_sound.false in
    let lots = asked_true c.are_rows_within.ensures c.if-not-are_rows_within.false in
    let value = asked_true c.are_rows_within-2.ensures c.if-not-are_rows_within-2.false in
    λ t.
    let others = with_prices a.prices.now (with_rows a.lots.now a.value.now (with_book a.book.now t)) in
    let long = asked_false (c.is_ledger_short.ensures t) c.if-is_ledger_short.false in
    let head = asked_true (c.is_head_sound.ensures others) c.if-not-is_head_sound.false in
    rw (c.is_book_sound.ensures (with_head a.head.now others)) (book_decides (with_head a.head.now others) long head prices lots value)
