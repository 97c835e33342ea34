use mathlib.Core.Path.{◌∙◌}
use Rattle.header.proofs.Headers.{same_letters}
use Rattle.header.proofs.reader.begins_with_letters.Goals as goal

pub returns : goal.returns
returns c = c.starts_with.ensures.value ∙ same_letters _ _
