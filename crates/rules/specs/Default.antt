-- Document 01, "Default": the default of a member and the close-out of a contract (001, articles 27 and 30).
use Rattle.std.specs.Prelude.{ℕ, zero, suc, ◌+◌, ◌*◌, ◌-◌, ◌/◌, min, Bool, cond, not, ◌&&◌, ◌||◌, eqb, leb, ltb, length, get_or, set, replicate, ℤ, pos, neg_ℤ, nat_abs, ◌-ℤ◌}
use mathlib.Core.List.{List, [], ◌∷◌, ◌++◌, map, zip_with}
use Rattle.arith.specs.Ints.{up, dn}
use Rattle.arith.specs.Lists.{kept, total, from}
use Rattle.rules.specs.declared.event.CloseOutTerms.{CloseOutTerms}
use Rattle.rules.specs.Answers.{Outcome}
use Rattle.rules.specs.ContractTerms.{days_of, open_contracts}
use Rattle.rules.specs.Ledger.{Tables, Line, with_head, with_mark, members, day, calendar, defaulted, ggf, lots_at, orders, with_orders, booked}

-- ---- default
-- A default record marks the member and removes its orders from the table.
unfoldable pub default_booked : Tables → ℕ → Outcome Tables
default_booked t m = booked [] (with_orders (kept (λ o. not (eqb o.member m)) (orders t)) (with_head (with_mark m t.head) t))

-- ---- close-out
-- A list has one number for each member, by member.
abbrev pub by_member : {A : Type 0} → Tables → (ℕ → A) → List A
by_member t f = map f (from 0 (members t))

unfoldable pub sum_of : List ℕ → ℕ
sum_of ns = total (λ n. n) ns

-- Defaulted longs, and defaulted shorts, in a contract.
unfoldable pub defaulted_longs : Tables → ℕ → List ℕ
defaulted_longs t c = by_member t (λ m. cond (defaulted t m) (up (lots_at t c m)) 0)

unfoldable pub defaulted_shorts : Tables → ℕ → List ℕ
defaulted_shorts t c = by_member t (λ m. cond (defaulted t m) (dn (lots_at t c m)) 0)

-- q lots given up, lowest member first.
unfoldable pub given_up : ℕ → List ℕ → List ℕ
given_up q [] = []
given_up q (x ∷ xs) = min q x ∷ given_up (q - min q x) xs

abbrev pub less : List ℕ → List ℕ → List ℕ
less xs ys = zip_with (λ x y. x - y) xs ys

-- One line per member with a change, rising.
unfoldable pub change_lines : ℕ → ℕ → ℕ → List ℤ → List Line
change_lines c p m [] = []
change_lines c p m (z ∷ zs) =
    let rest = change_lines c p (suc m) zs in
    cond (eqb (nat_abs z) 0) rest (record { member = m; contract = c; lots = z; price = p } ∷ rest)

-- Step 1: defaulted longs against defaulted shorts up to the smaller total, lowest member first on each side.
unfoldable pub smaller_total : Tables → ℕ → ℕ
smaller_total t c = min (sum_of (defaulted_longs t c)) (sum_of (defaulted_shorts t c))

unfoldable pub netted_longs : Tables → ℕ → List ℕ
netted_longs t c = given_up (smaller_total t c) (defaulted_longs t c)

unfoldable pub netted_shorts : Tables → ℕ → List ℕ
netted_shorts t c = given_up (smaller_total t c) (defaulted_shorts t c)

-- A long gives up lots, a short's lots come back.
unfoldable pub netting_changes : Tables → ℕ → List ℤ
netting_changes t c = zip_with (λ s l. pos s -ℤ pos l) (netted_shorts t c) (netted_longs t c)

-- Step 2: L lots remain on one side; what each defaulted member has left of them.
unfoldable pub longs_remaining : Tables → ℕ → List ℕ
longs_remaining t c = less (defaulted_longs t c) (netted_longs t c)

unfoldable pub shorts_remaining : Tables → ℕ → List ℕ
shorts_remaining t c = less (defaulted_shorts t c) (netted_shorts t c)

unfoldable pub lots_remaining : Tables → ℕ → ℕ
lots_remaining t c = sum_of (longs_remaining t c) + sum_of (shorts_remaining t c)

-- The other members, those not defaulted: their absolute lots in the contract.
unfoldable pub others_lots : Tables → ℕ → List ℕ
others_lots t c = by_member t (λ m. cond (defaulted t m) 0 (nat_abs (lots_at t c m)))

-- The sum over open contracts of days times absolute lots.
unfoldable pub open_weight : Tables → ℕ → ℕ
open_weight t m = total (λ c. days_of (calendar t) c * nat_abs (lots_at t c m)) (open_contracts (calendar t) (day t))

-- If 1000 L ≥ ratio times t, each other member's weight is that sum; else its absolute lots here.
unfoldable pub weights : Tables → CloseOutTerms → List ℕ
weights t e =
    let here = others_lots t e.contract in
    cond (leb (e.ratio * sum_of here) (1000 * lots_remaining t e.contract)) (by_member t (λ m. cond (defaulted t m) 0 (open_weight t m))) here

-- A member's minimum: L times its weight x / total weight w, rounded up (article 27). With w = 0 nothing is dealt out.
unfoldable pub minimum : ℕ → ℕ → ℕ → ℕ
minimum l w x = (l * x + (w - 1)) / w

unfoldable pub minimums : ℕ → List ℕ → List ℕ
minimums l ws = map (minimum l (sum_of ws)) ws

-- Members ordered by larger minimum, larger weight, lower number.
unfoldable pub comes_first : List ℕ → List ℕ → ℕ → ℕ → Bool
comes_first mins ws i j =
    ltb (get_or mins j 0) (get_or mins i 0)
    || eqb (get_or mins j 0) (get_or mins i 0) && (ltb (get_or ws j 0) (get_or ws i 0) || eqb (get_or ws j 0) (get_or ws i 0) && ltb i j)

-- A member put in its place among members in order.
unfoldable pub placed : (ℕ → ℕ → Bool) → ℕ → List ℕ → List ℕ
placed first i [] = i ∷ []
placed first i (j ∷ js) = cond (first i j) (i ∷ j ∷ js) (j ∷ placed first i js)

unfoldable pub in_order : (ℕ → ℕ → Bool) → List ℕ → List ℕ
in_order first [] = []
in_order first (i ∷ is) = placed first i (in_order first is)

-- What each member has received, and the lots that are not dealt out yet.
pub record Dealing : Type 0 where
  pub received : List ℕ
  pub undealt : ℕ

-- A member's turn: one lot, never past its minimum, while there are any (article 30).
unfoldable pub turn : List ℕ → ℕ → Dealing → Dealing
turn mins i s =
    cond (ltb 0 s.undealt && ltb (get_or s.received i 0) (get_or mins i 0))
    (record { received = set s.received i (get_or s.received i 0 + 1); undealt = s.undealt - 1 })
    s

unfoldable pub round : List ℕ → List ℕ → Dealing → Dealing
round mins [] s = s
round mins (i ∷ is) s = round mins is (turn mins i s)

unfoldable pub rounds : ℕ → List ℕ → List ℕ → Dealing → Dealing
rounds zero mins is s = s
rounds (suc n) mins is s = rounds n mins is (round mins is s)

-- L lots dealt out: a round deals one lot at least, so L rounds are enough.
unfoldable pub dealt_out : ℕ → List ℕ → List ℕ
dealt_out l ws =
    let mins = minimums l ws in
    (rounds l mins (in_order (comes_first mins ws) (from 0 (length ws))) (record { received = replicate (length ws) 0; undealt = l })).received

unfoldable pub taken : Tables → CloseOutTerms → List ℕ
taken t e = dealt_out (lots_remaining t e.contract) (weights t e)

-- Long lots go from the defaulted to the takers; short lots come back to the defaulted from them.
unfoldable pub defaulted_changes : Tables → ℕ → List ℤ
defaulted_changes t c = zip_with (λ s l. pos s -ℤ pos l) (shorts_remaining t c) (longs_remaining t c)

unfoldable pub taker_changes : Tables → CloseOutTerms → List ℤ
taker_changes t e = map (λ q. cond (ltb 0 (sum_of (longs_remaining t e.contract))) (pos q) (neg_ℤ (pos q))) (taken t e)

-- Step 1 rising; step 2 defaulted rising, then takers rising; all at the contract's GGF.
unfoldable pub close_out_lines : Tables → CloseOutTerms → List Line
close_out_lines t e =
    let c = e.contract in
    let p = ggf t c in
    change_lines c p 0 (netting_changes t c) ++ (change_lines c p 0 (defaulted_changes t c) ++ change_lines c p 0 (taker_changes t e))

unfoldable pub close_out_booked : Tables → CloseOutTerms → Outcome Tables
close_out_booked t e = booked (close_out_lines t e) t
