-- What is dealt out: whole rounds up to the highest level, then one round; and all lots are dealt. Assumes nothing.
use Prim.Native.Nat.{ℕ, ◌-◌, ◌<◌}
use mathlib.Core.Path.{◌≡◌, sym, ap, ◌∙◌}
use mathlib.Core.List.{List, [], ◌∷◌}
use native.Mathlib.Omega.{arith}
use lib.ListN.{length, replicate}
use Rattle.arith.specs.Lists.{from}
use Rattle.rules.specs.Default.{sum_of, minimums, comes_first, in_order, Dealing, round, rounds, dealt_out}
use Rattle.rules.proofs.Minimums.{minimums_suffice, minimums_length}
use Rattle.rules.proofs.Netting.{sum_none}
use Rattle.dealing.specs.Levels.{at_level, Highest}
use Rattle.dealing.proofs.Levels.{level_zero, dealt_to, last_round, last_whole, highest}

pub some_members : (ws : List ℕ) → 0 < sum_of ws → 0 < length ws
some_members [] h = absurd (omega (arith, sum_none))
some_members (w ∷ ws) h = omega arith

module _ (l : ℕ) (ws : List ℕ) (some : 0 < sum_of ws) where
  abbrev mins : List ℕ
  mins = minimums l ws

  abbrev order : List ℕ
  order = in_order (comes_first mins ws) (from 0 (length ws))

  there : 0 < length mins
  there = rw (minimums_length l ws) (some_members ws some)

  after : (r : ℕ) → Highest l mins r
      → (rounds l mins order (record { received = replicate (length ws) 0; undealt = l }) ≡ round mins order (dealt_to l mins r)) × ((round mins order (dealt_to l mins r)).undealt ≡ 0)
  after r h = rw (minimums_length l ws) at (last_round l mins (comes_first mins ws) there r h (minimums_suffice l ws some))

  pub dealt_from_level : (r : ℕ) → Highest l mins r → dealt_out l ws ≡ (round mins order (record { received = at_level r mins; undealt = l - sum_of (at_level r mins) })).received
  unfolding dealt_out dealt_to
  dealt_from_level r h = ap (λ s. s.received) (after r h).0

  -- one round from the highest level, as the code does it, deals all out
  pub dealt_by_round : (m is d : List ℕ) (r k : ℕ) (s : Dealing) → m ≡ mins → is ≡ in_order (comes_first m ws) (from 0 (length ws)) → Highest l m r
      → d ≡ at_level r m → k ≡ l - sum_of (at_level r m) → s ≡ round m is (record { received = d; undealt = k }) → s.received ≡ dealt_out l ws
  dealt_by_round m is d r k s em ei h ed ek es =
      let e : s ≡ round m (in_order (comes_first m ws) (from 0 (length ws))) (record { received = at_level r m; undealt = l - sum_of (at_level r m) }) = rw (ei, ed, ek) at es in
      ap (λ (x : Dealing). x.received) (rw em at e) ∙ sym (dealt_from_level r (rw em at h))

  pub all_dealt : sum_of (dealt_out l ws) ≡ l
  unfolding dealt_to
  all_dealt =
      highest l mins l 0 (omega arith) (omega (arith, level_zero mins))
      (λ r h. let whole = rw (minimums_length l ws) at (last_whole l mins (comes_first mins ws) there r h.enough) in
      rw (dealt_from_level r h) (omega (arith, whole, (after r h).1)))
