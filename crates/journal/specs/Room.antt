-- How much room in the output running a record needs.
use Rattle.std.specs.Prelude.{ℕ, ◌+◌, ◌*◌}
use Rattle.rules.specs.Ranges.{least_lines}
use Rattle.printing.specs.Room.{line_room}

-- A record prints at most as many lines as a call is lent places for.
abbrev pub record_room : ℕ
record_room = least_lines * line_room

-- With less room, for those lines and one more, it is not run.
abbrev pub room_wanted : ℕ
room_wanted = record_room + line_room
