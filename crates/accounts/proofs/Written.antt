-- What is written in the line table and in the book is read back from it.
use mathlib.Core.Path.{◌≡◌, refl, ap, ◌∙◌}
use mathlib.Core.List.{List, ◌++◌, flat_map}
use Prim.Native.Nat.{ℕ, suc, ◌+◌, ◌*◌, ◌<◌}
use native.Mathlib.Omega.{arith}
use lib.ListN.{length, get_or, drop}
use lib.Seq.{get_or-append-add, get_or-set_same}
use lib.IntN.{ℤ, pos, nat_abs}
use Rattle.arith.specs.Lists.{over}
use Rattle.arith.proofs.Blocks.{read_back}
use Rattle.rules.specs.Ledger.{line_width, order_count_place, order_width}
use Rattle.rules.specs.declared.order.Order.{Order}
use Rattle.rules.specs.declared.order.Side.{Side}
use Rattle.rules.specs.declared.order.Side.TheVariants.{Buy, Sell}
use Rattle.rules.specs.Sides.{side_of, side_number}
use Rattle.rules.specs.Ledger.{Tables, Line, line_places, line_at, first_lines, order_places, order_at, orders, with_orders}

-- a place of the next thing, past the places of this one
later : {A : Type 0} (d : A) (xs l : List A) (p q : ℕ) → p ≡ length xs + q → get_or (xs ++ l) p d ≡ get_or l q d
later d xs l p q e = ap (λ n. get_or (xs ++ l) n d) e ∙ get_or-append-add xs l q d

line_next : (x : Line) (l : List ℤ) (i : ℕ) → line_at (line_places x ++ l) (suc i) ≡ line_at l i
line_next x l i =
    let at : (p q : ℕ) → p ≡ 4 + q → get_or (line_places x ++ l) p (pos 0) ≡ get_or l q (pos 0) = later (pos 0) (line_places x) l in
    λ s. record {
      member = nat_abs (at (suc i * line_width) (i * line_width) (omega arith) s);
      contract = nat_abs (at (suc i * line_width + 1) (i * line_width + 1) (omega arith) s);
      lots = at (suc i * line_width + 2) (i * line_width + 2) (omega arith) s;
      price = nat_abs (at (suc i * line_width + 3) (i * line_width + 3) (omega arith) s);
    }

-- the lines of a call are what the first places of its line table say
pub lines_printed : (ls : List Line) (l : List ℤ) → first_lines (length ls) (over 0 (flat_map line_places ls) l) ≡ ls
unfolding first_lines over
lines_printed ls l = read_back line_places line_at (λ x l. refl) line_next ls (drop (0 + length (flat_map line_places ls)) l)

side_back : (s : Side) → side_of (side_number s) ≡ s
side_back Buy = refl
side_back Sell = refl

order_here : (o : Order) (l : List ℕ) → order_at (order_places o ++ l) 0 ≡ o
order_here o l = λ s. record
    { number = o.number; member = o.member; contract = o.contract; side = side_back o.side s; price = o.price; lots = o.lots; day = o.day; time = o.time }

order_next : (o : Order) (l : List ℕ) (i : ℕ) → order_at (order_places o ++ l) (suc i) ≡ order_at l i
order_next o l i =
    let at : (p q : ℕ) → p ≡ 8 + q → get_or (order_places o ++ l) p 0 ≡ get_or l q 0 = later 0 (order_places o) l in
    λ s. record {
      number = at (suc i * order_width) (i * order_width) (omega arith) s;
      member = at (suc i * order_width + 1) (i * order_width + 1) (omega arith) s;
      contract = at (suc i * order_width + 2) (i * order_width + 2) (omega arith) s;
      side = side_of (at (suc i * order_width + 3) (i * order_width + 3) (omega arith) s);
      price = record { 0 = at (suc i * order_width + 4) (i * order_width + 4) (omega arith) s };
      lots = record { 0 = at (suc i * order_width + 5) (i * order_width + 5) (omega arith) s };
      day = record { 0 = at (suc i * order_width + 6) (i * order_width + 6) (omega arith) s };
      time = at (suc i * order_width + 7) (i * order_width + 7) (omega arith) s;
    }

-- orders read from a head whose count is theirs and a book that begins with them
pub orders_written : (os : List Order) (t : Tables) → 7 < length t.head → orders (with_orders os t) ≡ os
unfolding orders with_orders over
orders_written os t h = rw (get_or-set_same t.head order_count_place (length os) 0 h) (read_back order_places order_at order_here order_next os (drop (0 + length (flat_map order_places os)) t.book))
