use mathlib.Core.Path.{◌∙◌}
use Rattle.rules.specs.Ledger.{Tables, with_lines}
use Rattle.close_out.proofs.Running.{put, blank}
use Rattle.close_out.proofs.Verdicts.{no_lots, no_taker, passed, booked_so, dealable}
use Rattle.close_out.proofs.close_out_lots.Goals as goal

pub returns-then-netted-remaining-eq0 : goal.returns-then-netted-remaining-eq0
returns-then-netted-remaining-eq0 c =
    let a = c.args in
    let u : Tables → Tables = put a.head.now a.lots.now a.value.now a.lines.now in
    let f = c.requires.head_fit.1 in
    let p = c.requires.contract_lt_contract_count in
    λ t o g. no_lots (u t) f a.e p.0 _ _ _ _ c.find_defaulted-netted.ensures.found a.price.0 p.3 o g c.if-netted-remaining-eq0.true

pub returns-then-remaining-sum_of : goal.returns-then-remaining-sum_of
returns-then-remaining-sum_of c =
    let a = c.args in
    let u : Tables → Tables = put a.head.now a.lots.now a.value.now a.lines.now in
    let f = c.requires.head_fit.1 in
    let p = c.requires.contract_lt_contract_count in
    λ t o g. no_taker (u t) f a.e p.0 _ _ _ _ c.find_defaulted-netted.ensures.found a.price.0 p.3 o g c.if-netted-remaining-eq0.false _ _ c.sum_of.ensures
    (c.find_weights.ensures.column_after (with_lines a.lines.now t) a.value.now) c.if-remaining-sum_of.true

pub returns-then-head-netted-gt-MOST_LOTS_RUN : goal.returns-then-head-netted-gt-MOST_LOTS_RUN
returns-then-head-netted-gt-MOST_LOTS_RUN c =
    let a = c.args in
    let u : Tables → Tables = put a.head.now a.lots.now a.value.now a.lines.now in
    let f = c.requires.head_fit.1 in
    let p = c.requires.contract_lt_contract_count in
    λ t o g. passed (u t) f a.e p.0 _ _ _ _ c.find_defaulted-netted.ensures.found a.price.0 p.3 o g c.if-netted-remaining-eq0.false _ _ c.sum_of.ensures
    (c.find_weights.ensures.column_after (with_lines a.lines.now t) a.value.now) c.if-remaining-sum_of.false c.if-head-netted-gt-MOST_LOTS_RUN.true

pub book_steps-count-requires-clause-dealable : goal.book_steps-count-requires-clause-dealable
book_steps-count-requires-clause-dealable c =
    let a = c.args in
    let u = put a.head.now a.lots.now a.value.now a.lines.now blank in
    dealable u c.requires.head_fit.1 a.e c.requires.contract_lt_contract_count.0 _ _ _ _ c.find_defaulted-netted.ensures.found _ _ c.sum_of.ensures c.if-remaining-sum_of.false
    (c.find_weights.auto.column ∙ c.requires.longs_len.2) c.find_weights.ensures.member_column

pub returns : goal.returns
returns c =
    let a = c.args in
    let u : Tables → Tables = put a.head.now a.lots.now a.value.now a.lines.now in
    let f = c.requires.head_fit.1 in
    let p = c.requires.contract_lt_contract_count in
    let k = c.book_steps-count.ensures in
    λ t o g. booked_so (u t) f a.e p.0 _ _ _ _ c.find_defaulted-netted.ensures.found a.price.0 p.3 o g c.if-netted-remaining-eq0.false _ _ c.sum_of.ensures
    (c.find_weights.ensures.column_after (with_lines a.lines.now t) a.value.now) c.if-remaining-sum_of.false c.if-head-netted-gt-MOST_LOTS_RUN.false _ _ k.value (k.t_after t)
