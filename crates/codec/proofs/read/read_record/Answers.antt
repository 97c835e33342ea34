use mathlib.Core.Bool.{Bool, true, false, cond}
use mathlib.Core.Path.{◌≡◌, refl, ◌∙◌}
use Rattle.std.specs.Bool.{then_some}
use Rattle.std.specs.Prelude.{Some, None}
use Rattle.rules.specs.declared.event.Event.{Event}
use Rattle.arith.proofs.Tests.{asked_true, asked_false}
use Rattle.codec.proofs.Fields.{read_none, read_unsound, read_judged}
use Rattle.codec.proofs.read.read_record.Goals as goal

as_cond : (b : Bool) (e : Event) → then_some b e ≡ cond b (Some e) None
as_cond true e = refl
as_cond false e = refl

pub returns-then-not-is_member_count_sound : goal.returns-then-not-is_member_count_sound
returns-then-not-is_member_count_sound c = read_none _ _ (asked_false c.is_member_count_sound.ensures c.if-not-is_member_count_sound.true)

pub returns-in_err-event : goal.returns-in_err-event
returns-in_err-event c =
    let few = asked_true c.is_member_count_sound.ensures c.if-not-is_member_count_sound.false in
    c.from_residual.ensures ∙ read_unsound _ _ few c.fields_of.ensures c.in_err-event.was

pub returns : goal.returns
returns c =
    let few = asked_true c.is_member_count_sound.ensures c.if-not-is_member_count_sound.false in
    c.then_some.ensures ∙ as_cond _ _ ∙ read_judged _ _ few c.fields_of.ensures c.in_ok-event.was c.is_sound_as_read.ensures refl
