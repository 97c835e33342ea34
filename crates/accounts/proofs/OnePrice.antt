-- Lines of one contract at one price: where their lots sum to nothing, lots and value do in every hour. Assumes nothing.
use Prim.Native.Nat.{ℕ}
use mathlib.Core.Path.{◌≡◌, refl, sym, ap, ap₂, ◌∙◌}
use mathlib.Core.List.{List, [], ◌∷◌, ◌++◌}
use lib.IntN.{ℤ, pos, ◌+ℤ◌, ◌*ℤ◌, zero-*ℤ, +ℤ_idl, +ℤ_assoc}
use Rattle.arith.specs.Ints.{when}
use Rattle.arith.proofs.Sums.{*ℤ_distrib, when_zero, when_add}
use Rattle.arith.specs.Lists.{All}
use Rattle.rules.specs.Days.{Calendar}
use Rattle.rules.specs.ContractTerms.{holds_hour}
use Rattle.rules.specs.Ledger.{Line}
use Rattle.rules.specs.Accounts.{Column, lots, value, amount}
use Rattle.accounts.proofs.Lines.{hour_total}

-- the lots of the lines, added up
unfoldable pub net_lots : List Line → ℤ
net_lots [] = pos 0
net_lots (l ∷ ls) = l.lots +ℤ net_lots ls

pub net_append : (xs ys : List Line) → net_lots (xs ++ ys) ≡ net_lots xs +ℤ net_lots ys
unfolding net_lots
net_append [] ys = sym (+ℤ_idl (net_lots ys))
net_append (l ∷ xs) ys = ap (λ z. l.lots +ℤ z) (net_append xs ys) ∙ sym (+ℤ_assoc l.lots (net_lots xs) (net_lots ys))

-- what lots at a price add to a column
abbrev worth : Column → ℕ → ℤ → ℤ
worth lots p z = z
worth value p z = z *ℤ pos p

worth_zero : (x : Column) (p : ℕ) → worth x p (pos 0) ≡ pos 0
worth_zero lots p = refl
worth_zero value p = zero-*ℤ (pos p)

worth_add : (x : Column) (p : ℕ) (a b : ℤ) → worth x p (a +ℤ b) ≡ worth x p a +ℤ worth x p b
worth_add lots p a b = refl
worth_add value p a b = *ℤ_distrib a b (pos p)

line_worth : (x : Column) (p : ℕ) (l : Line) → l.price ≡ p → amount x l ≡ worth x p l.lots
line_worth lots p l e = refl
line_worth value p l e = ap (λ n. l.lots *ℤ pos n) e

module _ (k : Calendar) (x : Column) (h c p : ℕ) where
  -- the hour's total is what the net lots are worth, if the contract's period holds the hour
  hour_total_lem : (ls : List Line) → All (λ l. l.contract ≡ c) ls → All (λ l. l.price ≡ p) ls → hour_total k (amount x) h ls ≡ when (holds_hour k c h) (worth x p (net_lots ls))
  unfolding hour_total net_lots
  hour_total_lem [] cs ps = sym (ap (when (holds_hour k c h)) (worth_zero x p) ∙ when_zero (holds_hour k c h))
  hour_total_lem (l ∷ ls) cs ps =
      ap₂ (λ a b. a +ℤ b) (ap₂ (λ d a. when (holds_hour k d h) a) cs.0 (line_worth x p l ps.0)) (hour_total_lem ls cs.1 ps.1)
      ∙ sym (ap (when (holds_hour k c h)) (worth_add x p l.lots (net_lots ls)) ∙ when_add (holds_hour k c h) (worth x p l.lots) (worth x p (net_lots ls)))

  -- lots that sum to nothing leave nothing in any hour, in lots and in value
  pub balanced_at_price : (ls : List Line) → All (λ l. l.contract ≡ c) ls → All (λ l. l.price ≡ p) ls → net_lots ls ≡ pos 0 → hour_total k (amount x) h ls ≡ pos 0
  balanced_at_price ls cs ps e = hour_total_lem ls cs ps ∙ rw (e, worth_zero x p) (when_zero (holds_hour k c h))
