-- Deals as the rules have them and as a column keeps them: their lots, their worth and their lines. Assumes nothing.
use mathlib.Core.Path.{◌≡◌, refl, sym, ap}
use mathlib.Core.Bool.{Bool, cond, ◌&&◌}
use mathlib.Core.List.{List, [], ◌∷◌, ◌++◌, map, flat_map}
use mathlib.Core.Option.{Option, none, some}
use Prim.Native.Nat.{ℕ, zero, suc, ◌+◌, ◌*◌, ◌-◌, min}
use native.Mathlib.Omega.{arith}
use native.Mathlib.Nat.{zero-add}
use lib.Dec.{ltb}
use Rattle.arith.specs.Lists.{total, kept}
use Rattle.arith.proofs.Tests.{by_bool, true_or}
use Rattle.rules.specs.declared.order.Order.{Order}
use Rattle.rules.specs.Ledger.{line_run}
use Rattle.rules.specs.Sides.{other_side}
use Rattle.rules.specs.Matching.{best, opposes, meets, with_lots, used, Deal, Matched, stopped, after_deal, matching, matched, deal_lines}
use Rattle.matching.specs.declared.deals.Counterparty.{Counterparty}
use Rattle.matching.specs.Crossing.{crosses, crossing_lots, crossing_in}
use Rattle.matching.specs.Ranks.{lots_of, crossing}
use Rattle.matching.specs.Deals.{counterparty_of, lines_with}
use Rattle.rules.proofs.Sides.{abs_signed}

abbrev dealt : Deal → ℕ
dealt d = d.lots

-- What is dealt and what is left is what came in.
totals : (n : ℕ) (o : Order) (os : List Order) → total dealt (matching n o os).deals + (matching n o os).left ≡ o.lots.0
unfolding matching total
totals zero o os = zero-add o.lots.0
totals (suc n) o os = go (best (opposes o) os) refl (λ r. totals n (with_lots (o.lots.0 - min o.lots.0 r.lots.0) o) (used r.number (min o.lots.0 r.lots.0) os))
  where
    next : Order → Matched
    next r = matching n (with_lots (o.lots.0 - min o.lots.0 r.lots.0) o) (used r.number (min o.lots.0 r.lots.0) os)

    go : (b : Option Order) → best (opposes o) os ≡ b → ((r : Order) → total dealt (next r).deals + (next r).left ≡ o.lots.0 - min o.lots.0 r.lots.0)
        → total dealt (matching (suc n) o os).deals + (matching (suc n) o os).left ≡ o.lots.0
    go none e ih = rw (e, matching) (zero-add o.lots.0)
    go (some r) e ih =
        let made = after_deal (record { resting = r; lots = min o.lots.0 r.lots.0 }) (next r) in
        rw (e, matching)
        (by_bool (λ c. total dealt (cond c made (stopped o os)).deals + (cond c made (stopped o os)).left ≡ o.lots.0) (ltb 0 o.lots.0 && meets o r)
        (λ _. omega (arith, ih r)) (λ _. zero-add o.lots.0))

pub dealt_and_left : (o : Order) (os : List Order) → total (λ d. d.lots) (matched o os).deals + (matched o os).left ≡ o.lots.0
unfolding matched
dealt_and_left o os = totals _ o os

-- ---- one and the other
pub lots_kept : (ds : List Deal) → total (λ d. d.lots) ds ≡ total (λ c. c.lots.0) (map counterparty_of ds)
unfolding total
lots_kept [] = refl
lots_kept (d ∷ ds) = ap (λ n. d.lots + n) (lots_kept ds)

pub worth_kept : (ds : List Deal) → total (λ d. d.lots * d.resting.price.0) ds ≡ total (λ c. c.lots.0 * c.price.0) (map counterparty_of ds)
unfolding total
worth_kept [] = refl
worth_kept (d ∷ ds) = ap (λ n. d.lots * d.resting.price.0 + n) (worth_kept ds)

pub lines_kept : (o : Order) (ds : List Deal) → flat_map (deal_lines o) ds ≡ flat_map (lines_with o) (map counterparty_of ds)
unfolding flat_map
lines_kept o [] = refl
lines_kept o (d ∷ ds) = ap (λ l. deal_lines o d ++ l) (lines_kept o ds)

-- each deal counts twice in the lots run
pub run_of_lines : (o : Order) (cs : List Counterparty) → line_run (flat_map (lines_with o) cs) ≡ 2 * total (λ c. c.lots.0) cs
unfolding line_run total flat_map
run_of_lines o [] = refl
run_of_lines o (c ∷ cs) = rw (abs_signed o.side c.lots.0, abs_signed (other_side o.side) c.lots.0) (omega (arith, run_of_lines o cs))

-- ---- lots by a pass over the orders
pub total_kept : (p : Order → Bool) (os : List Order) → total lots_of (kept p os) ≡ total (λ r. cond (p r) r.lots.0 0) os
unfolding total kept
total_kept p [] = refl
total_kept p (r ∷ os) = true_or (p r) (λ e. rw (e, total_kept p os)) (λ e. rw (e, total_kept p os) (sym (zero-add _)))

pub crossing_all : (o : Order) (os : List Order) → crossing o (map lots_of os) os ≡ crossing_in o os
unfolding crossing crossing_in crossing_lots total
crossing_all o [] = refl
crossing_all o (r ∷ os) = ap (λ n. cond (crosses o r) r.lots.0 0 + n) (crossing_all o os)
