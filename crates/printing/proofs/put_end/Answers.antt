use Rattle.rules.specs.Journal.{end_text}
use Rattle.printing.proofs.put_end.Goals as goal

pub returns : goal.returns
unfolding end_text
returns c = (λ t. c.put_line.ensures.0, c.put_line.ensures.1)
