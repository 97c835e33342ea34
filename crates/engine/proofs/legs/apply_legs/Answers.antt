use mathlib.Core.Path.{sym, ap, ◌∙◌}
use lib.ListN.{get_or}
use lib.Seq.{length-take-le}
use Rattle.rules.specs.Ledger.{members_place}
use Rattle.rules.specs.Refusals.{proposal_spec}
use Rattle.tables.specs.Lent.{tables_of}
use Rattle.engine.proofs.Events.{legs_room, legs_fit_lem, legs_are}
use Rattle.engine.proofs.legs.apply_legs.Goals as goal

pub slice_bounds-legs-end : goal.slice_bounds-legs-end
slice_bounds-legs-end c =
    let a = c.args in
    legs_room (get_or a.tables.now.head.now members_place 0) a.count a.bytes.now c.read_legs.result c.read_legs.ensures c.requires.1

pub slice_bounds-legs-end-2 : goal.slice_bounds-legs-end-2
slice_bounds-legs-end-2 c =
    let a = c.args in
    sym (length-take-le a.count c.read_legs.result (legs_room (get_or a.tables.now.head.now members_place 0) a.count a.bytes.now c.read_legs.result c.read_legs.ensures c.requires.1))

pub apply-requires : goal.apply-requires
apply-requires c =
    let a = c.args in
    let f = c.requires.0 in
    record {
      head_fit = (f.head_fit, f.prices_fit, f.book_fit, f.lines_long);
      rows_fit = (f.lots_fit, f.value_fit);
      legs_fit = legs_fit_lem (get_or a.tables.now.head.now members_place 0) a.count a.bytes.now c.read_legs.result c.read_legs.ensures c.requires.1;
    }

pub returns-clause-answer : goal.returns-clause-answer
returns-clause-answer c =
    let a = c.args in
    let t = tables_of a.tables.now in
    c.apply.ensures t
    ∙ ap (proposal_spec t) (legs_are (get_or t.head members_place 0) a.count a.bytes.now c.read_legs.result c.read_legs.ensures c.requires.1)
