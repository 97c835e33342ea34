use mathlib.Core.Path.{refl, ◌∙◌}
use Rattle.number_fields.specs.RecordFields.{row_event}
use Rattle.number_fields.proofs.event.event_in.Goals as goal

pub returns-then-kind-legs : goal.returns-then-kind-legs
unfolding row_event
returns-then-kind-legs c = c.event_of.ensures ∙ rw c.if-kind-legs.true refl

pub returns-else-kind-legs : goal.returns-else-kind-legs
unfolding row_event
returns-else-kind-legs c = rw c.if-kind-legs.false refl
