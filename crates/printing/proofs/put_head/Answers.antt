use Rattle.rules.specs.Journal.{head_text}
use Rattle.printing.proofs.put_head.Goals as goal

pub returns : goal.returns
unfolding head_text
returns c = (λ t. c.put_line.ensures.0, c.put_line.ensures.1)
