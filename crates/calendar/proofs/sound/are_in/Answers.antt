use Rattle.std.proofs.Common.{◌∙◌, rules, tests}
use Rattle.std.proofs.lemmas.Iterator.{YieldsList-from_slice}
use Rattle.std.proofs.lemmas.Iterator.Search.{all_from_yields_List}
use Rattle.arith.proofs.Scans.{every_same}
use Rattle.rules.specs.Days.{in_span}
use Rattle.months.specs.Spans.{lies_in}
use Rattle.months.proofs.Starts.{lies_in_lem}
use Rattle.calendar.proofs.Lists.{every_lem}
use Rattle.calendar.proofs.sound.are_in.Goals as goal

pub returns : goal.returns
returns c =
    let span = c.args.span in
    let days = c.args.days.now in
    λ k s. all_from_yields_List (lies_in span) _ _ c.all.result c.all.ensures.ran (YieldsList-from_slice days c.iter.ensures.rest) (λ x b q h. search (rules, tests))
    ∙ every_lem (lies_in span) days ∙ every_same (lies_in span) (in_span k) (λ d. lies_in_lem k span d s) days
