use mathlib.Core.Path.{ap, ◌∙◌}
use Rattle.std.specs.Prelude.{Some}
use Rattle.rules.specs.declared.event.Event.TheVariants.{Cancel, DayLimits, CloseOut}
use Rattle.rules.specs.Records.{event_by_kind}
use Rattle.record_kinds.proofs.ByKind.{by_kind, no_kind}
use Rattle.record_kinds.proofs.numbers.event_of.Goals as goal

pub returns-in-1 : goal.returns-in-1
unfolding event_by_kind
returns-in-1 c = c.submit_of.ensures ∙ by_kind c.args.numbers.now 1 c.in-1.is

pub returns-in-2 : goal.returns-in-2
unfolding event_by_kind
returns-in-2 c = ap (λ e. Some (Cancel e)) c.cancellation_of.ensures ∙ by_kind c.args.numbers.now 2 c.in-2.is

pub returns-in-3 : goal.returns-in-3
unfolding event_by_kind
returns-in-3 c = ap (λ e. Some (DayLimits e)) c.new_day_limits_of.ensures ∙ by_kind c.args.numbers.now 3 c.in-3.is

pub returns-in-4 : goal.returns-in-4
unfolding event_by_kind
returns-in-4 c = by_kind c.args.numbers.now 4 c.in-4.is

pub returns-in-5 : goal.returns-in-5
unfolding event_by_kind
returns-in-5 c = by_kind c.args.numbers.now 5 c.in-5.is

pub returns-in-6 : goal.returns-in-6
unfolding event_by_kind
returns-in-6 c = ap (λ e. Some (CloseOut e)) c.close_out_of.ensures ∙ by_kind c.args.numbers.now 6 c.in-6.is

pub returns-in-7 : goal.returns-in-7
unfolding event_by_kind
returns-in-7 c = by_kind c.args.numbers.now 7 c.in-7.is

pub returns-in_default : goal.returns-in_default
returns-in_default c =
    let r = c.in_default.in_default-own.rest in
    no_kind c.args.numbers.now _ r.0.0.0.0.0.0.1 r.0.0.0.0.0.1 r.0.0.0.0.1 r.0.0.0.1 r.0.0.1 r.0.1 r.1
