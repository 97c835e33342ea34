use Rattle.rules.specs.Journal.{refusal_text}
use Rattle.printing.proofs.put_refusal.Goals as goal

pub returns : goal.returns
unfolding refusal_text
returns c = c.put_line.ensures
