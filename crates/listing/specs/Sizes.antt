-- How long a line may be, and the bytes that it is made of.
use Rattle.std.specs.Prelude.{ℕ}

-- The most bytes that a line is made of; no header or record is as long.
abbrev pub most_bytes : ℕ
most_bytes = 65536

-- The most bytes of a line.
abbrev pub line_room : ℕ
line_room = 62000
