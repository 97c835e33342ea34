use mathlib.Core.Path.{ap, ◌∙◌}
use lib.ListN.{length}
use Rattle.rules.specs.Fields.{kind_fields}
use Rattle.number_fields.proofs.Rows.{put_rows}
use Rattle.number_fields.proofs.numbers.put_event.Goals as goal

pub returns : goal.returns
returns c =
    let a = c.args in
    let fields = c.field_count-fields.ensures.0 ∙ ap (λ k. length (kind_fields k)) c.kind_number.ensures.0 in
    put_rows a.event a.legs.now a.row.now _ _ c.leg_count-count.ensures fields c.requires.0 c.requires.2 c.put_numbers.ensures c.put_legs.ensures
