use Rattle.std.proofs.Common.{rules}
use Rattle.contract_phases.specs.Phases.{closes}
use Rattle.close_of_day.proofs.orders.remove_closing.Goals as goal

pub remove_where-requires : goal.remove_where-requires
remove_where-requires c =
    let reads = c.requires.1 in record {
      fit = (c.requires.0, record { most_orders_holds = reads.most_orders_holds; long = reads.long; most_side = reads.most_side; least_lots = reads.least_lots });
      callable = search rules;
    }

pub returns : goal.returns
returns c = c.remove_where.ensures (λ o. closes c.args.column.now o.contract) (λ o b m. search rules)
