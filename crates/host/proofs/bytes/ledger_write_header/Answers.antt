use Rattle.host.proofs.Answers.{answered}
use Rattle.host.proofs.bytes.ledger_write_header.Goals as goal

pub returns : goal.returns
returns c = answered _ c.write_header_fields.ensures c.reply_of-reply.ensures.0 c.reply_of-reply.ensures.1
