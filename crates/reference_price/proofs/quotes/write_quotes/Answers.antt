use mathlib.Core.List.{◌∷◌}
use mathlib.Core.Path.{◌≡◌, sym, ap, ◌∙◌}
use mathlib.Core.List.{map}
use Prim.Native.Nat.{ℕ, ◌+◌, ◌-◌, ◌≤◌}
use native.Mathlib.Omega.{arith}
use lib.ListN.{get_or-replicate, length-replicate}
use Rattle.arith.specs.Lists.{from}
use Rattle.arith.proofs.Scans.{from_next, from_end}
use Rattle.rules.specs.Ranges.{contract_count}
use Rattle.rules.specs.Ledger.{order_at}
use Rattle.reference_price.proofs.BestPrices.{quotes_next, quotes_none, all_from_place}
use Rattle.reference_price.proofs.quotes.write_quotes.Goals as goal

pub loop-i-init : goal.loop-i-init
loop-i-init c =
    let pre = c.requires in
    let a = c.args in
    let n = a.count in (
      rw pre.1 (length-replicate {A = ℕ} contract_count 0),
      λ x h. rw (pre.1, get_or-replicate {A = ℕ} contract_count x 0 0 h, from_end n n (omega arith)) (sym (quotes_none a.day.0 a.time a.side x)),
    )

pub loop-i-preserved : goal.loop-i-preserved
loop-i-preserved c =
    let pre = c.requires in
    let a = c.args in
    let fit = pre.0 in
    let b = a.book.now in
    let i = c.loop-i.i - 1 in
    let up : i + 1 ≡ c.loop-i.i = omega arith in
    let rest = map (order_at b) (from c.loop-i.i (a.count - c.loop-i.i)) in
    let more : map (order_at b) (from i (a.count - i)) ≡ order_at b i ∷ rest = ap (map (order_at b)) (from_next i a.count (omega arith)) ∙ rw up in (
      omega (arith, c.note_quote.auto.quotes),
      λ x h. rw (c.note_quote.ensures, c.order_at-o.ensures, more)
          (quotes_next a.day.0 a.time a.side c.loop-i.quotes (order_at b i) rest
          (all_from_place (λ o. 1 ≤ o.price.0) (order_at b) c.loop-i.i (a.count - c.loop-i.i) (λ j u v. fit.least_price j (omega arith)))
          (omega (arith, fit.contract_below i (omega arith))) c.loop-i.invariant.1 x h),
    )
