-- What is left of a book's orders: one step of the pass that writes them from the front. Assumes nothing.
use mathlib.Core.Path.{◌≡◌, refl, sym, ap, ◌∙◌}
use mathlib.Core.Bool.{Bool, not, cond}
use mathlib.Core.List.{List, [], ◌∷◌, ◌++◌, map, flat_map, append-nil}
use Prim.Native.Nat.{ℕ, zero, suc, ◌+◌, ◌*◌, ◌<◌, ◌≤◌}
use native.Mathlib.Omega.{arith}
use native.Mathlib.Nat.{zero-add}
use native.Mathlib.Numerals.{add-one, add-two, add-three, add-four, add_five, add_six, add_seven}
use lib.Dec.{eqb}
use lib.ListN.{length, get_or, set, take, drop, length-append, length-map}
use lib.Seq.{length-take-le, set-get_or, get_or-set_other}
use borrow.Author.Tests.{ne_eqb}
use Rattle.arith.specs.Lists.{All, kept, from, over}
use Rattle.arith.proofs.Overs.{over_outside}
use Rattle.arith.proofs.Tests.{true_or}
use Rattle.arith.proofs.Appends.{from_more, from_length, map_append, flat_append, flat_one, flat_length, map_at, from_at}
use Rattle.arith.proofs.Writes.{stored, over_more, again_front}
use Rattle.rules.specs.Ledger.{order_width}
use Rattle.rules.specs.Ledger.{book_length}
use Rattle.rules.specs.declared.order.Order.{Order}
use Rattle.rules.specs.Ledger.{side_at, order_at, order_places}
use Rattle.rules.specs.Matching.{with_lots}
use Rattle.tables.specs.Fit.{orders_in}
use Rattle.order_book.specs.Left.{left_over, staying}
use Rattle.rules.proofs.Sides.{side_again}

-- ---- one more order
pub left_nothing : (qs : List ℕ) → left_over qs [] ≡ []
unfolding left_over
left_nothing [] = refl
left_nothing (q ∷ qs) = refl

pub left_more : (qs : List ℕ) (os : List Order) (o : Order) → length os < length qs
    → left_over qs (os ++ (o ∷ [])) ≡ left_over qs os ++ (let q = get_or qs (length os) 0 in cond (eqb q 0) [] (with_lots q o ∷ []))
unfolding left_over
left_more [] os o h = absurd (omega arith)
left_more (q ∷ qs) [] o h = true_or (eqb q 0) (λ e. rw e (left_nothing qs)) (λ e. rw (e, left_nothing qs))
left_more (q ∷ qs) (x ∷ os) o h =
    let more = left_more qs os o (omega arith) in
    true_or (eqb q 0) (λ e. rw (e, more)) (λ e. rw (e, more))

pub left_most : (qs : List ℕ) (os : List Order) → length (left_over qs os) ≤ length os
unfolding left_over
left_most [] os = omega arith
left_most (q ∷ qs) [] = omega arith
left_most (q ∷ qs) (o ∷ os) = true_or (eqb q 0) (λ e. rw e (omega (arith, left_most qs os))) (λ e. rw e (omega (arith, left_most qs os)))

pub orders_more : (b : List ℕ) (i : ℕ) → orders_in (i + 1) b ≡ orders_in i b ++ (order_at b i ∷ [])
orders_more b i = rw (add-one i, from_more 0 i, map_append (order_at b) (from 0 i) ((0 + i) ∷ []), zero-add i)

pub orders_length : (b : List ℕ) (i : ℕ) → length (orders_in i b) ≡ i
orders_length b i = length-map (from 0 i) (order_at b) ∙ from_length 0 i

-- what holds of the order at each of the first n places
pub all_orders : (P : Order → Type 0) (b : List ℕ) (n : ℕ) → ((i : ℕ) → i < n → P (order_at b i)) → All P (orders_in n b)
unfolding from
all_orders P b n h = go 0 n (λ i l u. h i (omega arith))
  where
    go : (a k : ℕ) → ((i : ℕ) → a ≤ i → i < a + k → P (order_at b i)) → All P (map (order_at b) (from a k))
    go a zero f = tt
    go a (suc k) f = (f a (omega arith) (omega arith), go (suc a) k (λ i l u. f i (omega arith) (omega arith)))

-- ---- orders that leave: where each of them has lots, those that stay are the ones kept
pub staying_kept : (p : Order → Bool) (os : List Order) → All (λ o. 1 ≤ o.lots.0) os → left_over (staying p os) os ≡ kept (λ o. not (p o)) os
unfolding left_over staying kept
staying_kept p [] a = refl
staying_kept p (o ∷ os) a =
    true_or (p o) (λ e. rw (e, staying_kept p os a.1))
    (λ e. rw (e, ne_eqb o.lots.0 0 (λ z. omega (arith, a.0)), staying_kept p os a.1))

module _ (p : Order → Bool) (n : ℕ) (b : List ℕ) where
  pub staying_length : length (staying p (orders_in n b)) ≡ n
  unfolding staying
  staying_length = length-map (orders_in n b) (λ o. cond (p o) 0 o.lots.0) ∙ orders_length b n

  pub staying_at : (i : ℕ) → i < n → get_or (staying p (orders_in n b)) i 0 ≡ cond (p (order_at b i)) 0 (order_at b i).lots.0
  unfolding staying
  staying_at i h =
      map_at (λ o. cond (p o) 0 o.lots.0) (orders_in n b) i (order_at b i) 0 (omega (arith, orders_length b n))
      ∙ ap (λ o. cond (p o) 0 o.lots.0) (map_at (order_at b) (from 0 n) i 0 (order_at b i) (omega (arith, from_length 0 n)) ∙ ap (order_at b) (from_at 0 n i 0 h ∙ zero-add i))

-- the column as `remove_orders` lends it: the first n places of an array
module _ (p : Order → Bool) (n : ℕ) (ys l b : List ℕ) (fits : n ≤ length l) (e : ys ≡ staying p (orders_in (length (take n l)) b)) where
  as_lent : length ys ≡ length (take n l)
  as_lent = ap length e ∙ staying_length p (length (take n l)) b

  pub column_kept : All (λ o. 1 ≤ o.lots.0) (orders_in n b) → left_over (take n (ys ++ drop n l)) (orders_in n b) ≡ kept (λ o. not (p o)) (orders_in n b)
  column_kept a = rw (again_front n ys l as_lent fits, e, length-take-le n l fits) (staying_kept p (orders_in n b) a)

-- ---- one step
-- An order behind what was written is read as it was.
pub order_there : (xs b : List ℕ) (i : ℕ) → length xs ≤ i * order_width → i < 256 → book_length ≤ length b → order_at (over 0 xs b) i ≡ order_at b i
order_there xs b i h s l =
    let fits : 0 + length xs ≤ length b = omega arith in
    rw (
      over_outside 0 xs b fits (i * order_width) 0 (λ _. omega arith),
      over_outside 0 xs b fits (i * order_width + 1) 0 (λ _. omega arith),
      over_outside 0 xs b fits (i * order_width + 2) 0 (λ _. omega arith),
      over_outside 0 xs b fits (i * order_width + 3) 0 (λ _. omega arith),
      over_outside 0 xs b fits (i * order_width + 4) 0 (λ _. omega arith),
      over_outside 0 xs b fits (i * order_width + 5) 0 (λ _. omega arith),
      over_outside 0 xs b fits (i * order_width + 6) 0 (λ _. omega arith),
      over_outside 0 xs b fits (i * order_width + 7) 0 (λ _. omega arith),
    )

pub side_there : (xs b : List ℕ) (i : ℕ) → length xs ≤ i * order_width → i < 256 → book_length ≤ length b → side_at (over 0 xs b) i ≡ side_at b i
side_there xs b i h s l = over_outside 0 xs b (omega arith) (i * order_width + 3) 0 (λ _. omega arith)

-- An order written where it stands changes its lots.
pub lots_written : (b : List ℕ) (i q : ℕ) → i * order_width + 8 ≤ length b → side_at b i ≤ 1 → set b (i * order_width + 5) q ≡ over (i * order_width) (order_places (with_lots q (order_at b i))) b
lots_written b i q h s =
    let at = i * order_width in
    let behind = suc (suc (suc (suc (suc at)))) in
    sym
    (sym (stored (order_places (with_lots q (order_at b i))) b at h)
    ∙ rw (
      side_again (side_at b i) s,
      add-one at,
      add-two at,
      add-three at,
      add-four at,
      add_five at,
      add_six at,
      add_seven at,
      set-get_or b at 0,
      set-get_or b (suc at) 0,
      set-get_or b (suc (suc at)) 0,
      set-get_or b (suc (suc (suc at))) 0,
      set-get_or b (suc (suc (suc (suc at)))) 0,
      ← get_or-set_other b behind (suc behind) q 0 (λ e. omega arith),
      ← get_or-set_other b behind (suc (suc behind)) q 0 (λ e. omega arith),
      set-get_or (set b behind q) (suc behind) 0,
      set-get_or (set b behind q) (suc (suc behind)) 0,
    ))

pub places_length : (os : List Order) → length (flat_map order_places os) ≡ length os * order_width
places_length os = flat_length 8 order_places (λ o. refl) os

module _ (qs b : List ℕ) where
  -- what is left of the first i orders
  abbrev pub left_to : ℕ → List Order
  left_to i = left_over qs (orders_in i b)

  pub left_few : (i : ℕ) → length (left_to i) ≤ i
  left_few i = omega (arith, left_most qs (orders_in i b), orders_length b i)

  module _ (i : ℕ) (small : i < 256) (long : book_length ≤ length b) (column : i < length qs) where
    left_next : left_to (i + 1) ≡ left_to i ++ cond (eqb (get_or qs i 0) 0) [] (with_lots (get_or qs i 0) (order_at b i) ∷ [])
    left_next = rw (orders_more b i, left_more qs (orders_in i b) (order_at b i) (omega (arith, orders_length b i)), orders_length b i)

    pub kept_count : (free : ℕ) → free ≡ length (left_to i) → cond (eqb (get_or qs i 0) 0) free (free + 1) ≡ length (left_to (i + 1))
    kept_count free e =
        rw (e, left_next, length-append (left_to i) (cond (eqb (get_or qs i 0) 0) [] (with_lots (get_or qs i 0) (order_at b i) ∷ [])))
        (true_or (eqb (get_or qs i 0) 0) (λ t. rw t (omega arith)) (λ t. rw t (omega arith)))

    written : (o : Order) → o ≡ order_at b i
        → cond (eqb (get_or qs i 0) 0) (over 0 (flat_map order_places (left_to i)) b) (over (length (left_to i) * order_width) (order_places (with_lots (get_or qs i 0) o))
        (over 0 (flat_map order_places (left_to i)) b))
        ≡ over 0 (flat_map order_places (left_to (i + 1))) b
    written o e =
        let rest = with_lots (get_or qs i 0) (order_at b i) in
        rw (e, left_next)
        (true_or (eqb (get_or qs i 0) 0) (λ t. rw (t, append-nil (left_to i)))
        (λ t. rw (t, flat_append order_places (left_to i) (rest ∷ []), flat_one order_places rest)
        (over_more (length (left_to i) * order_width) (flat_map order_places (left_to i)) (order_places rest) b (places_length (left_to i)))))

    pub kept_book : (free : ℕ) (book : List ℕ) → free ≡ length (left_to i) → book ≡ over 0 (flat_map order_places (left_to i)) b
        → cond (eqb (get_or qs i 0) 0) book (over (free * order_width) (order_places (with_lots (get_or qs i 0) (order_at book i))) book) ≡ over 0 (flat_map order_places (left_to (i + 1))) b
    kept_book free book e f =
        rw (f, e) (written (order_at (over 0 (flat_map order_places (left_to i)) b) i)
        (order_there (flat_map order_places (left_to i)) b i (omega (arith, places_length (left_to i), left_few i)) small long))
