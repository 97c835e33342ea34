use Prim.Native.Nat.{◌*◌}
use native.Mathlib.Nat.{add-zero}
use Rattle.rules.specs.Ledger.{price_width}
use Rattle.reference_price.specs.Columns.{ggf_from}
use Rattle.reference_price.proofs.prices.write_ggf.Goals as goal

pub returns : goal.returns
unfolding ggf_from
returns c =
    let args = c.args in
    rw (c.reference_price-ggf.ensures, c.threshold-threshold.ensures, c.kind_of.ensures, add-zero (args.contract * price_width))
