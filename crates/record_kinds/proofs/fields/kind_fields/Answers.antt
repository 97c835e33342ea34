use native.Mathlib.Omega.{arith}
use mathlib.Core.Path.{refl}
use Rattle.rules.specs.Fields.{kind_fields}
use Rattle.record_kinds.proofs.ByKind.{no_fields}
use Rattle.record_kinds.proofs.fields.kind_fields.Goals as goal

pub returns-in-1 : goal.returns-in-1
unfolding kind_fields
returns-in-1 c = (rw c.in-1.is refl, omega arith)

pub returns-in-2 : goal.returns-in-2
unfolding kind_fields
returns-in-2 c = (rw c.in-2.is refl, omega arith)

pub returns-in-3 : goal.returns-in-3
unfolding kind_fields
returns-in-3 c = (rw c.in-3.is refl, omega arith)

pub returns-in-4 : goal.returns-in-4
unfolding kind_fields
returns-in-4 c = (rw c.in-4.is refl, omega arith)

pub returns-in-5 : goal.returns-in-5
unfolding kind_fields
returns-in-5 c = (rw c.in-5.is refl, omega arith)

pub returns-in-6 : goal.returns-in-6
unfolding kind_fields
returns-in-6 c = (rw c.in-6.is refl, omega arith)

pub returns-in-7 : goal.returns-in-7
unfolding kind_fields
returns-in-7 c = (rw c.in-7.is refl, omega arith)

pub returns-in_default : goal.returns-in_default
returns-in_default c =
    let r = c.in_default.in_default-own.rest in
    (no_fields _ r.0.0.0.0.0.0.1 r.0.0.0.0.0.1 r.0.0.0.0.1 r.0.0.0.1 r.0.0.1 r.0.1 r.1, omega arith)
