use Prim.Native.Nat.{ℕ, ◌+◌}
use mathlib.Core.Path.{◌≡◌, sym, ap, ◌∙◌}
use mathlib.Core.Bool.{Bool}
use native.Mathlib.Omega.{arith}
use lib.IntN.{ℤ, pos, ◌+ℤ◌}
use lib.Signed.{lt_z}
use Rattle.rules.specs.Ledger.{Tables, with_head, with_rows, limit, lots_at}
use Rattle.rules.specs.Matching.{mirrored}
use Rattle.rules.specs.declared.event.Submission.{Submission}
use Rattle.submit_causes.proofs.causes.measured_cause.Goals as goal

-- Whether the limit is passed, as the rules say it and as the code tests it.
above : (own wanted : ℕ) (e : Submission) (t : Tables) {z : ℤ} {r : Bool} → z ≡ mirrored e.side (lots_at t e.contract e.member)
    → r ≡ lt_z (pos (limit t e.member)) (z +ℤ pos (own + wanted))
    → lt_z (pos (limit t e.member)) (mirrored e.side (lots_at t e.contract e.member) +ℤ pos (own + wanted)) ≡ r
above own wanted e t z r = ap (λ z. lt_z (pos (limit t e.member)) (z +ℤ pos (own + wanted))) (sym z) ∙ sym r

pub position-requires : goal.position-requires
position-requires c =
    let f = c.requires.head_fit in
    let e = c.args.e in record {
      rows_length_in_bounds = (f.1.long, f.2.contract_below, omega (arith, f.2.member_below, f.0.most_members_holds));
      pos_bound = omega
          (arith, f.1.within e.contract e.member f.2.contract_below f.2.member_below, f.0.most_run);
    }

pub is_above-requires : goal.is_above-requires
is_above-requires c =
    let f = c.requires.head_fit in
    ((f.0.member_fit c.args.e.member f.2.member_below).most_limit_holds, c.position.ensures.1, omega (arith, c.requires.own_bound, f.2.most_lots_holds))

pub returns-then-is_above : goal.returns-then-is_above
returns-then-is_above c = λ t b. rw (
  above c.args.found.own.0 c.args.e.lots.0 c.args.e (with_head c.args.head.now (with_rows c.args.lots.now t.value t)) c.position.ensures.0 c.is_above.ensures,
  c.if-is_above.true,
)

pub returns-then-is_teye-crossing : goal.returns-then-is_teye-crossing
returns-then-is_teye-crossing c = λ t b. rw (
  above c.args.found.own.0 c.args.e.lots.0 c.args.e (with_head c.args.head.now (with_rows c.args.lots.now t.value t)) c.position.ensures.0 c.is_above.ensures,
  c.if-is_above.false,
  ← c.is_teye.ensures,
  c.if-is_teye-crossing.true,
)

pub returns-then-is_resting-crossing : goal.returns-then-is_resting-crossing
returns-then-is_resting-crossing c = λ t b. rw (
  above c.args.found.own.0 c.args.e.lots.0 c.args.e (with_head c.args.head.now (with_rows c.args.lots.now t.value t)) c.position.ensures.0 c.is_above.ensures,
  c.if-is_above.false,
  ← c.is_teye.ensures,
  c.if-is_teye-crossing.false,
  ← c.is_resting.ensures,
  c.if-is_resting-crossing.true,
)

pub returns-then-run-head : goal.returns-then-run-head
returns-then-run-head c = λ t b. rw (
  above c.args.found.own.0 c.args.e.lots.0 c.args.e (with_head c.args.head.now (with_rows c.args.lots.now t.value t)) c.position.ensures.0 c.is_above.ensures,
  c.if-is_above.false,
  ← c.is_teye.ensures,
  c.if-is_teye-crossing.false,
  ← c.is_resting.ensures,
  c.if-is_resting-crossing.false,
  ← c.min.ensures,
  c.if-run-head.true,
)

pub returns : goal.returns
returns c = λ t b. rw (
  above c.args.found.own.0 c.args.e.lots.0 c.args.e (with_head c.args.head.now (with_rows c.args.lots.now t.value t)) c.position.ensures.0 c.is_above.ensures,
  c.if-is_above.false,
  ← c.is_teye.ensures,
  c.if-is_teye-crossing.false,
  ← c.is_resting.ensures,
  c.if-is_resting-crossing.false,
  ← c.min.ensures,
  c.if-run-head.false,
)
