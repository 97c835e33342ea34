-- How much room a line needs.
use Rattle.std.specs.Prelude.{ℕ}

-- The most bytes of a line: a letter, four fields of 21 bytes and the end of the line.
abbrev pub line_room : ℕ
line_room = 86
