use Rattle.std.proofs.Common.{◌≡◌, ◌+◌, ◌*◌, ◌≤◌, length}
use mathlib.Core.List.{flat_map}
use Rattle.rules.specs.Journal.{deal_text}
use Rattle.rules.specs.Ledger.{first_lines}
use Rattle.text.specs.Wrote.{Wrote}
use Rattle.printing.specs.Room.{line_room}
use Rattle.printing.proofs.put_deals.Given as goal

abbrev pub invariant-loop-i : goal.invariant-loop-i
invariant-loop-i l =
    (length l.out ≡ length l.initial.out)
    × (Wrote l.place (flat_map deal_text (first_lines l.i l.lines)) l.initial.out l.out l.end × (l.end ≤ l.place + line_room * l.i))
