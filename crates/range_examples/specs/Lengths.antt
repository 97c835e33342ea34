-- Document 01, "a lent table too short … or under 200 places for lines": the least length of each table, and one place less.
-- Each number is written out by hand from docs/LAYOUT.md.
use Rattle.std.specs.Prelude.{ℕ, refl, [], ◌∷◌, take}
use Rattle.rules.specs.Answers.{reply_of}
use Rattle.rules.specs.Ledger.{Tables, with_head, with_prices, with_rows, with_book, with_lines}
use Rattle.rules.specs.Refusals.{apply_spec, make_spec}
use Rattle.rules.specs.Bytes.{header_example}
use Rattle.rules.specs.Computed.{computed}
use Rattle.rules.specs.ExampleRecords.{close, monday, Each}

-- Monday, its tables with so many places: head, prices, lots, value, book, lines.
cut : ℕ × ℕ × ℕ × ℕ × ℕ × ℕ → Tables
cut (head, prices, lots, value, book, lines) =
    with_head (take head monday.head)
    (with_prices (take prices monday.prices)
    (with_rows (take lots monday.lots) (take value monday.value) (with_book (take book monday.book) (with_lines (take lines monday.lines) monday))))

-- The number of a close of day on them, and of a ledger made in them, which asks no line table.
numbers : Tables → ℕ × ℕ
numbers t = ((reply_of (apply_spec t (close 0)).answer).number, (reply_of (make_spec t header_example).answer).number)

least_lengths : Each (λ x. numbers (cut x))
    (((224, 510, 3264, 3264, 2048, 800), (0, 0))
    ∷ ((223, 510, 3264, 3264, 2048, 800), (1, 1))
    ∷ ((224, 509, 3264, 3264, 2048, 800), (1, 1))
    ∷ ((224, 510, 3263, 3264, 2048, 800), (1, 1))
    ∷ ((224, 510, 3264, 3263, 2048, 800), (1, 1))
    ∷ ((224, 510, 3264, 3264, 2047, 800), (1, 1))
    ∷ ((224, 510, 3264, 3264, 2048, 799), (1, 0))
    ∷ [])
unfolding computed cut numbers
least_lengths = refl
