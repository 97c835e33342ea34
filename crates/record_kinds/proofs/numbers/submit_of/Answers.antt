use mathlib.Core.Path.{refl}
use Rattle.record_kinds.proofs.numbers.submit_of.Goals as goal

pub returns-then-not-side-kind : goal.returns-then-not-side-kind
returns-then-not-side-kind c = rw c.if-not-side-kind.true refl

pub returns : goal.returns
returns c = rw (c.if-not-side-kind.false, c.side_of.ensures, c.order_kind_of.ensures) refl
