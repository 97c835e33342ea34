use native.Mathlib.Omega.{arith}
use mathlib.Core.Path.{refl}
use lib.IntN.{pos}
use Rattle.arith.proofs.Signed.{rd_pos, neg_ok, neg_is}
use Rattle.arith.proofs.Sizes.{abs_neg}
use Rattle.deal_lines.proofs.lines.with_sign.Goals as goal

pub overflow_sub-result : goal.overflow_sub-result
overflow_sub-result c = neg_ok c.args.lots.0 (omega arith)

pub returns-in-Buy : goal.returns-in-Buy
returns-in-Buy c = rw (rd_pos c.args.lots.0 (omega arith), c.in-Buy.is) (refl, refl)

pub returns-in-Sell : goal.returns-in-Sell
returns-in-Sell c = rw (neg_is c.args.lots.0 (omega arith), c.in-Sell.is) (refl, abs_neg (pos c.args.lots.0))
