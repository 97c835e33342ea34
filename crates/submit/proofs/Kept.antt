-- The deals of a column, one after the other. Assumes nothing.
use mathlib.Core.Path.{◌≡◌, refl, sym, ap, ◌∙◌}
use mathlib.Core.List.{List, [], ◌∷◌, ◌++◌, flat_map, append_assoc}
use Prim.Native.Nat.{ℕ, zero, suc, ◌+◌, ◌*◌, ◌-◌, ◌≤◌, ◌<◌}
use native.Mathlib.Omega.{arith}
use native.Mathlib.Nat.{zero-add, add-zero, mul-le-mul}
use native.Mathlib.Numerals.{add-one}
use lib.ListN.{length, length-map}
use Rattle.arith.specs.Lists.{from, total}
use Rattle.arith.proofs.Appends.{from_more, from_length, map_append, flat_append, flat_one, flat_length}
use Rattle.rules.specs.declared.order.Order.{Order}
use Rattle.rules.specs.Ranges.{most_lots, most_price}
use Rattle.matching.specs.declared.deals.Counterparty.{Counterparty}
use Rattle.matching.specs.Deals.{deal_at, deals_in, line_in, line_out, lines_with}
use Rattle.matching.proofs.Passes.{total_one}
use Rattle.submit.specs.Deals.{DealColumnFit, worth_of}
use Rattle.arith.proofs.Totals.{total_append}

module _ (l : List ℕ) where
  deals_next : (k : ℕ) → deals_in (k + 1) l ≡ deals_in k l ++ (deal_at l k ∷ [])
  unfolding deals_in
  deals_next k = rw (add-one k, from_more 0 k, map_append (deal_at l) (from 0 k) ((0 + k) ∷ []), zero-add k)

  pub deals_length : (k : ℕ) → length (deals_in k l) ≡ k
  unfolding deals_in
  deals_length k = length-map (from 0 k) (deal_at l) ∙ from_length 0 k

  module _ (f : Counterparty → ℕ) where
    pub total_next : (k : ℕ) → total f (deals_in (k + 1) l) ≡ total f (deals_in k l) + f (deal_at l k)
    total_next k = rw (deals_next k, total_append f (deals_in k l) (deal_at l k ∷ []), total_one f (deal_at l k))

    pub total_prefix : (k n : ℕ) → k ≤ n → total f (deals_in k l) ≤ total f (deals_in n l)
    total_prefix k n h = let e : k + (n - k) ≡ n = omega arith in rw (← e) (go (n - k))
      where
        go : (d : ℕ) → total f (deals_in k l) ≤ total f (deals_in (k + d) l)
        go zero = rw (add-zero k) (omega arith)
        go (suc d) = let e : k + suc d ≡ k + d + 1 = omega arith in rw e (omega (arith, go d, total_next (k + d)))

    pub total_at : (j n : ℕ) → j < n → f (deal_at l j) ≤ total f (deals_in n l)
    total_at j n h = omega (arith, total_next j, total_prefix (j + 1) n (omega arith))

  -- ---- their lines
  module _ (o : Order) where
    pub lines_next : (k : ℕ) → flat_map (lines_with o) (deals_in (k + 1) l) ≡ (flat_map (lines_with o) (deals_in k l) ++ (line_in o (deal_at l k) ∷ [])) ++ (line_out o (deal_at l k) ∷ [])
    lines_next k =
        rw (deals_next k, flat_append (lines_with o) (deals_in k l) (deal_at l k ∷ []), flat_one (lines_with o) (deal_at l k))
        (sym (append_assoc (flat_map (lines_with o) (deals_in k l)) (line_in o (deal_at l k) ∷ []) (line_out o (deal_at l k) ∷ [])))

    pub lines_length_lem : (k : ℕ) → length (flat_map (lines_with o) (deals_in k l)) ≡ k * 2
    lines_length_lem k = flat_length 2 (lines_with o) (λ d. refl) (deals_in k l) ∙ ap (λ n. n * 2) (deals_length k)

-- ---- the worth of the first k deals
pub record WorthTo (l : List ℕ) (k worth : ℕ) : Type 0 where
  pub sum : worth ≡ total worth_of (deals_in k l)
  pub most : worth ≤ k * (most_lots * most_price)

pub worth_start : (l : List ℕ) → WorthTo l 0 0
unfolding deals_in from total
worth_start l = record { sum = refl; most = omega arith }

pub worth_next : (l : List ℕ) (n k worth : ℕ) → DealColumnFit n l → k < n → WorthTo l k worth → (d : Counterparty) → d ≡ deal_at l k → WorthTo l (k + 1) (worth + d.lots.0 * d.price.0)
worth_next l n k worth f h w d e =
    rw e
    (record {
      sum = ap (λ m. m + worth_of (deal_at l k)) w.sum ∙ sym (total_next l worth_of k);
      most = omega (arith, w.most, mul-le-mul (f.most_lots_holds k h) (f.most_price_holds k h));
    })
