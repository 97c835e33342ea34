use Rattle.order_book.proofs.leaving.does_leave.Goals as goal

pub returns-in-Numbered : goal.returns-in-Numbered
returns-in-Numbered c = rw c.in-Numbered.is

pub returns-in-OfMember : goal.returns-in-OfMember
returns-in-OfMember c = rw c.in-OfMember.is
