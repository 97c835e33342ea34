use Rattle.order_book.proofs.leaving.left_of.Goals as goal

pub returns-then-leaves : goal.returns-then-leaves
returns-then-leaves c = rw c.if-leaves.true

pub returns : goal.returns
returns c = rw c.if-leaves.false
