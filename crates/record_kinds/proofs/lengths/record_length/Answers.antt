use mathlib.Core.Path.{sym, ◌∙◌}
use native.Mathlib.Nat.{add-zero}
use borrow.Author.Tests.{eq-eqb, ne_eqb, eqb-true}
use Rattle.arith.proofs.Tests.{never, asked_true, asked_false}
use Rattle.record_kinds.proofs.ByKind.{length_none, length_some}
use Rattle.record_kinds.proofs.lengths.record_length.Goals as goal

pub returns-then-is_empty : goal.returns-then-is_empty
returns-then-is_empty c = length_none _ _ (rw c.kind_fields.ensures.0 at (eqb-true _ 0 (asked_true c.is_empty.ensures c.if-is_empty.true)))

pub returns-then-kind-eq-PROPOSAL : goal.returns-then-kind-eq-PROPOSAL
returns-then-kind-eq-PROPOSAL c =
    let a = c.args in
    let some = rw c.kind_fields.ensures.0 at (asked_false c.is_empty.ensures c.if-is_empty.false) in
    rw (eq-eqb _ _ c.if-kind-eq-PROPOSAL.true) at (length_some a.kind a.legs (λ z. never (sym (eq-eqb _ 0 z) ∙ some)) c.fields_length.ensures.0)

pub returns : goal.returns
returns c =
    let a = c.args in
    let some = rw c.kind_fields.ensures.0 at (asked_false c.is_empty.ensures c.if-is_empty.false) in
    rw (ne_eqb _ _ c.if-kind-eq-PROPOSAL.false, add-zero) at (length_some a.kind a.legs (λ z. never (sym (eq-eqb _ 0 z) ∙ some)) c.fields_length.ensures.0)
