-- The book as it is written: unchanged orders, and one more that rests. Assumes nothing.
use mathlib.Core.Path.{◌≡◌, refl, sym, ap, ◌∙◌}
use mathlib.Core.Bool.{Bool, true, false, cond}
use mathlib.Core.List.{List, [], ◌∷◌, ◌++◌, flat_map}
use Prim.Native.Nat.{ℕ, zero, suc, ◌+◌, ◌*◌, ◌≤◌, ◌<◌}
use native.Mathlib.Omega.{arith}
use native.Mathlib.Nat.{zero-add}
use native.Mathlib.Numerals.{add-one, add-two, add-three, add-four, add_five, add_six, add_seven}
use lib.ListN.{length, take, drop, length-append, take-append-drop}
use lib.Seq.{drop-cons, take-add, get_or-set_same, set-set, length-take-le}
use Rattle.arith.specs.Lists.{over, from}
use Rattle.arith.proofs.Appends.{flat_append, flat_one}
use Rattle.arith.proofs.Writes.{over_more}
use Rattle.rules.specs.Ledger.{order_width}
use Rattle.rules.specs.Ledger.{order_count_place}
use Rattle.rules.specs.declared.order.Order.{Order}
use Rattle.rules.specs.Ledger.{Tables, with_head, with_book, with_order_count, side_at, order_at, order_places, with_orders}
use Rattle.tables.specs.Fit.{orders_in, order_count_in}
use Rattle.order_book.proofs.Left.{orders_more, places_length}
use Rattle.rules.proofs.Sides.{side_again}

-- ---- orders written where they stand
module _ (b : List ℕ) where
  block_is : (i : ℕ) → i * order_width + 8 ≤ length b → side_at b i ≤ 1 → order_places (order_at b i) ≡ take 8 (drop (i * order_width) b)
  block_is i h s =
      let at = i * order_width in
      rw (
        side_again (side_at b i) s,
        add-one at,
        add-two at,
        add-three at,
        add-four at,
        add_five at,
        add_six at,
        add_seven at,
        drop-cons b at 0 (omega arith),
        drop-cons b (suc at) 0 (omega arith),
        drop-cons b (suc (suc at)) 0 (omega arith),
        drop-cons b (suc (suc (suc at))) 0 (omega arith),
        drop-cons b (suc (suc (suc (suc at)))) 0 (omega arith),
        drop-cons b (suc (suc (suc (suc (suc at))))) 0 (omega arith),
        drop-cons b (suc (suc (suc (suc (suc (suc at)))))) 0 (omega arith),
        drop-cons b (suc (suc (suc (suc (suc (suc (suc at))))))) 0 (omega arith),
      )

  front_is : (n : ℕ) → n * order_width ≤ length b → ((i : ℕ) → i < n → side_at b i ≤ 1) → flat_map order_places (orders_in n b) ≡ take (n * order_width) b
  unfolding from flat_map
  front_is zero h s = refl
  front_is (suc n) h s =
      let e : suc n * order_width ≡ n * order_width + 8 = omega arith in
      ap (λ m. flat_map order_places (orders_in m b)) (sym (add-one n))
      ∙ rw (
        orders_more b n,
        flat_append order_places (orders_in n b) (order_at b n ∷ []),
        flat_one order_places (order_at b n),
        front_is n (omega arith) (λ i k. s i (omega arith)),
        block_is n (omega arith) (s n (omega arith)),
      )
      (sym (take-add (n * order_width) 8 b))
      ∙ ap (λ m. take m b) (sym e)

  pub written_back : (n : ℕ) → n * order_width ≤ length b → ((i : ℕ) → i < n → side_at b i ≤ 1) → over 0 (flat_map order_places (orders_in n b)) b ≡ b
  unfolding over
  written_back n h s = rw (front_is n h s, length-take-le (n * order_width) b h, zero-add (n * order_width)) (take-append-drop (n * order_width) b)

-- ---- one more order, or none
pub rest_written : (rests : Bool) (rs : List Order) (x : Order) (u : Tables) (head book : List ℕ) → 7 < length u.head → head ≡ with_order_count (length rs) u.head
    → book ≡ over 0 (flat_map order_places rs) u.book
    → with_head (cond rests (with_order_count (order_count_in head + 1) head) head) (with_book (cond rests (over (order_count_in head * order_width) (order_places x) book) book) u) ≡ with_orders
    (cond rests (rs ++ (x ∷ [])) rs) u
unfolding with_orders
rest_written true rs x u head book h e f =
    rw (
      f,
      e,
      get_or-set_same u.head order_count_place (length rs) 0 h,
      set-set u.head 7 (length rs) (length rs + 1),
      length-append rs (x ∷ []),
      flat_append order_places rs (x ∷ []),
      flat_one order_places x,
      over_more (length rs * order_width) (flat_map order_places rs) (order_places x) u.book (places_length rs),
    )
rest_written false rs x u head book h e f = rw (f, e)
