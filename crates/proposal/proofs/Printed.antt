-- The lines of a proposal, leg by leg. Assumes nothing.
use mathlib.Core.Path.{◌≡◌, refl, sym, ap, ◌∙◌}
use mathlib.Core.List.{List, [], ◌∷◌, ◌++◌, map}
use Prim.Native.Nat.{ℕ, ◌+◌}
use native.Mathlib.Nat.{zero-add}
use native.Mathlib.Numerals.{add-one}
use lib.IntN.{nat_abs}
use lib.ListN.{length, get_or, length-map}
use Rattle.arith.specs.Lists.{total, from}
use Rattle.arith.proofs.Appends.{from_more, from_length, map_append}
use Rattle.arith.proofs.Runs.{run_of}
use Rattle.arith.proofs.Scans.{map_map}
use Rattle.rules.specs.declared.event.Leg.{Leg}
use Rattle.rules.specs.declared.order.Order.{Order}
use Rattle.rules.specs.Ledger.{line_run, order_at}
use Rattle.rules.specs.Synthetic.{named_legs, leg_line}
use Rattle.proposal_check.specs.Legs.{no_leg, lots_of, named_at, named_to}
use Rattle.proposal.specs.Booking.{leg_line_at, lines_to}
use Rattle.arith.proofs.Totals.{total_same}
use Rattle.proposal_check.proofs.Lists.{total_map}
use Rattle.rules.proofs.Sides.{abs_signed}

module _ (book places : List ℕ) (legs : List Leg) where
  pub lines_length_lem : (n : ℕ) → length (lines_to book places legs n) ≡ n
  lines_length_lem n = length-map (from 0 n) (leg_line_at book places legs) ∙ from_length 0 n

  pub lines_more : (n : ℕ) → lines_to book places legs n ++ (leg_line_at book places legs n ∷ []) ≡ lines_to book places legs (n + 1)
  lines_more n = sym (rw (add-one n, from_more 0 n, map_append (leg_line_at book places legs) (from 0 n) ((0 + n) ∷ []), zero-add n))

  -- Each line is of its leg's lots.
  pub lines_run : line_run (lines_to book places legs (length legs)) ≡ total lots_of legs
  unfolding line_run
  lines_run =
      total_map (λ l. nat_abs l.lots) (leg_line_at book places legs) (from 0 (length legs))
      ∙ total_same _ (λ i. lots_of (get_or legs i no_leg)) 0 (length legs) (λ i _ _. abs_signed (order_at book (get_or places i 0)).side (get_or legs i no_leg).lots.0)
      ∙ sym (total_map lots_of (λ i. get_or legs i no_leg) (from 0 (length legs)))
      ∙ ap (total lots_of) (run_of (λ i. get_or legs i no_leg) legs no_leg (λ i _. refl))

  pub lines_of : (os : List Order) → named_legs os legs ≡ named_to book places legs → map leg_line (named_legs os legs) ≡ lines_to book places legs (length legs)
  lines_of os e = ap (map leg_line) e ∙ map_map leg_line (named_at book places legs) (from 0 (length legs))
