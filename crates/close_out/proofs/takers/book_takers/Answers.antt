use native.Mathlib.Omega.{arith}
use lib.ListN.{length, length-take}
use Rattle.close_out_weights.proofs.Still.{zeros_front}
use Rattle.close_out.proofs.takers.book_takers.Goals as goal

pub deal_columns-requires-clause-taken_len : goal.deal_columns-requires-clause-taken_len
deal_columns-requires-clause-taken_len c =
    let long = c.requires.contract_lt_contract_count.3 in
    let few = c.requires.bookable.1.few in
    (simp length-take (omega (arith, few, long)), rw (← long) (zeros_front (length c.args.weights.now) 32 (omega (arith, few))))
