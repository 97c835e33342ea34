use Rattle.rules.specs.declared.contract.ContractKind.TheVariants.{Year, Quarter, Month}
use Rattle.contract_phases.specs.Phases.{open_in, all_open_in}
use Rattle.reference_price.specs.Columns.{ggfs_from}
use Rattle.reference_price.proofs.Ggfs.{deals_ggfs, ggfs_append}
use mathlib.Core.List.{◌++◌, map}
use Rattle.reference_price.proofs.prices.write_ggfs.Goals as goal

pub write_kind_ggfs-requires-2 : goal.write_kind_ggfs-requires-2
write_kind_ggfs-requires-2 g c =
    let pre = c.requires in
    (rw c.write_kind_ggfs.ensures (deals_ggfs _ _ _ _ pre.0), pre.1, pre.2, pre.3)

pub write_kind_ggfs-requires-3 : goal.write_kind_ggfs-requires-3
write_kind_ggfs-requires-3 g c =
    let pre = c.requires in
    (rw (c.write_kind_ggfs-2.ensures, c.write_kind_ggfs.ensures) (deals_ggfs _ _ _ _ (deals_ggfs _ _ _ _ pre.0)), pre.1, pre.2, pre.3)

pub returns : goal.returns
unfolding all_open_in
returns g c =
    let a = c.args in
    let b = a.buys.now in
    let s = a.sells.now in
    let listed = open_in (map g.P.PhasePlace.read a.column.now) in
    rw (
      c.write_kind_ggfs-3.ensures,
      c.write_kind_ggfs-2.ensures,
      c.write_kind_ggfs.ensures,
      ggfs_append b s (listed Year) (listed Quarter ++ listed Month) a.prices.now,
      ggfs_append b s (listed Quarter) (listed Month) (ggfs_from b s (listed Year) a.prices.now),
    )
