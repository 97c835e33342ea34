use Rattle.std.proofs.Common.{◌≡◌, length, take}
use mathlib.Core.List.{map}
use Rattle.rules.specs.Text.{decimal}
use Rattle.printing.proofs.Lines.{Begun}
use Rattle.printing.proofs.put_line.Given as goal

abbrev pub invariant-loop-field : goal.invariant-loop-field
invariant-loop-field l = (length l.out ≡ length l.fn.out) × Begun l.place l.letter (map decimal (take l.field-index l.fields)) l.fn.out l.out l.end
