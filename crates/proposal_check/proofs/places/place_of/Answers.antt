use native.Mathlib.Nat.{add-zero}
use mathlib.Core.Path.{sym, ap, ◌∙◌}
use Prim.Native.Nat.{◌*◌}
use lib.ListN.{get_or}
use Rattle.rules.specs.Ledger.{order_width}
use Rattle.proposal_check.proofs.Named.{place_here, place_next, place_end}
use Rattle.proposal_check.proofs.places.place_of.Goals as goal

pub returns-then-book-i : goal.returns-then-book-i
returns-then-book-i c =
    let a = c.args in
    place_here a.number a.book.now a.count c.loop-i.i _ c.loop-i.invariant c.loop-i-test.true (ap (λ j. get_or a.book.now j 0) (sym (add-zero (c.loop-i.i * order_width))) ∙ c.if-book-i.true)

pub loop-i-preserved : goal.loop-i-preserved
loop-i-preserved c =
    let a = c.args in
    place_next a.number a.book.now a.count c.loop-i.i _ c.loop-i.invariant c.loop-i-test.true
    (λ e. c.if-book-i.false (ap (λ j. get_or a.book.now j 0) (add-zero (c.loop-i.i * order_width)) ∙ e))

pub returns : goal.returns
returns c = let a = c.args in place_end a.number a.book.now a.count c.loop-i.i _ c.loop-i.invariant c.loop-i-test.false c.loop-i.auto.i-end
