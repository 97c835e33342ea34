-- A submit leaves the numbers of the book rising: its own order comes last, with a number above all that rest. Assumes nothing.
use Prim.Native.Nat.{◌<◌}
use mathlib.Core.Bool.{cond}
use mathlib.Core.List.{[], ◌∷◌, ◌++◌}
use lib.ListN.{length}
use Rattle.arith.proofs.Alls.{all_map}
use Rattle.arith.proofs.Tests.{by_bool}
use Rattle.rules.specs.declared.event.Submission.{Submission}
use Rattle.rules.specs.declared.order.Order.{Order}
use Rattle.rules.specs.Ledger.{Tables, accepted_submits, orders}
use Rattle.rules.specs.Matching.{with_lots, matched, incoming, submit_matched, would_rest, submit_orders, submit_booked}
use Rattle.rules.proofs.SoundTables.{Undamaged, SoundOrder, book_gives}
use Rattle.accounts.specs.EveryList.{RisingNumbers}
use Rattle.accounts.proofs.Remains.{remain_all, remain_rising, rising_more, matching_remain}
use Rattle.accounts.proofs.OrdersAfter.{submit_orders_lem}

module _ (t : Tables) (u : Undamaged t) (e : Submission) where
  abbrev Earlier : Order → Type 0
  Earlier o = o.number < accepted_submits t

  orders_rising : RisingNumbers (orders t) → RisingNumbers (submit_orders t e)
  unfolding submit_orders submit_matched matched
  orders_rising a =
      let o = incoming t e in
      let m = submit_matched t e in
      let left = matching_remain (length (orders t)) o (orders t) in
      let earlier = remain_all Earlier Earlier (λ b q _ _ p. p) left (all_map (SoundOrder t) Earlier (orders t) (λ b s. s.number<) (book_gives t u.book_sound_holds).each) in
      let rest = remain_rising left a in
      by_bool (λ b. RisingNumbers (cond b (m.resting ++ (with_lots m.left o ∷ [])) m.resting)) (would_rest t e)
      (λ _. rising_more m.resting (with_lots m.left o) earlier rest) (λ _. rest)

  pub submit_rising : RisingNumbers (orders t) → RisingNumbers (orders (submit_booked t e).after)
  submit_rising a = rw (submit_orders_lem t u e) (orders_rising a)
