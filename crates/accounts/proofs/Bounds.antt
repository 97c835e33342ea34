-- The rows never pass the lots run. A cascade adds rows to rows, so more is kept: for each member and month, the absolute rows of the
-- three contracts that hold the month do not pass it together. A contract without a term holds no month and is bounded by itself.
use mathlib.Core.Path.{◌≡◌, refl, sym, ap, subst}
use mathlib.Core.Bool.{Bool, true, false, cond}
use mathlib.Core.List.{List, [], ◌∷◌}
use Prim.Native.Nat.{ℕ, ◌+◌, ◌*◌, ◌-◌, ◌/◌, ◌%◌, ◌≤◌, ◌<◌}
use native.Mathlib.Omega.{arith}
use native.Mathlib.Nat.{le_trans, one-mul, mul-add, mul-le-mul_left}
use lib.Dec.{eqb, leb}
use lib.ListN.{length, take, get_or, length-take, length-drop}
use lib.Seq.{get_or-take}
use lib.IntN.{ℤ, pos, nat_abs, ◌+ℤ◌}
use borrow.Author.Tests.{le-leb, leb-true, eqb-true, eq-eqb, ne_eqb}
use Rattle.arith.specs.Lists.{All, any, every, total}
use Rattle.arith.proofs.Alls.{all_map, every_place, all_place, every_all}
use Rattle.arith.proofs.EachBlock.{block, every_block_lem, block_at, block_passes}
use Rattle.arith.specs.Ints.{when}
use Rattle.arith.proofs.Sizes.{abs_plus, abs_times, abs_when}
use Rattle.arith.proofs.Tests.{le_or_lt, same_or, and_left, and_right}
use Rattle.rules.specs.Ledger.{head_length, rows_length}
use Rattle.rules.specs.Ranges.{contract_count, term_count, most_price, contracts_in_year, last_quarter, first_quarter, january, most_members, months_in_year, months_in_quarter}
use Rattle.rules.specs.ContractTerms.{children_of}
use Rattle.rules.specs.OtherForms.{year_of, quarter_of, month_of}
use Rattle.rules.proofs.HourLaws.{cascading}
use Rattle.rules.specs.Header.{Header}
use Rattle.rules.specs.Ledger.{Tables, Line, members, lots_run, row_width, row_place, line_run, fresh}
use Rattle.rules.specs.CloseOfDay.{cascaded, all_cascaded, with_closed}
use Rattle.rules.specs.Refusals.{every_row, rows_sound}
use Rattle.rules.specs.Accounts.{Column, lots, value, row, amount}
use Rattle.rules.proofs.SoundHeaders.{SoundHeader}
use Rattle.accounts.proofs.Lines.{row_total}
use Rattle.rules.proofs.Cascade.{cascaded_month, cascaded_length, cascaded_row}
use Rattle.accounts.proofs.Cascade.{year_no_child, quarter_child, month_child, no_term_child}
use Rattle.accounts.proofs.Fresh.{fresh_zero, fresh_runs}

-- ---- the bound
-- a member's absolute rows of the year, the quarter and the month that hold month i, together
abbrev three_rows : (ℕ → ℤ) → ℕ → ℕ
three_rows r i = nat_abs (r (year_of i)) + (nat_abs (r (quarter_of i)) + nat_abs (r (month_of i)))

pub record Bounded (n bound : ℕ) (R : ℕ → ℕ → ℤ) : Type 0 where
  pub within : (m i : ℕ) → m < n → i < 72 → three_rows (λ c. R c m) i ≤ bound
  pub apart : (c m : ℕ) → m < n → term_count ≤ c → c < contract_count → nat_abs (R c m) ≤ bound

-- Every contract that has a term is the year, the quarter or the month of some month, so no row passes the bound.
pub bounded_row : {n b : ℕ} {R : ℕ → ℕ → ℤ} → Bounded n b R → (c m : ℕ) → c < contract_count → m < n → nat_abs (R c m) ≤ b
bounded_row {R = R} a c m l q =
    let size : ℕ → ℕ = λ d. nat_abs (R d m) in
    let first = months_in_year * (c / contracts_in_year) in
    le_or_lt term_count c (λ w. a.apart c m q w l)
    (λ w. same_or (c % contracts_in_year) 0
    (λ z. let e : year_of first ≡ c = omega arith in omega (arith, a.within m first q (omega arith), ap size e))
    (λ z. le_or_lt (c % contracts_in_year) last_quarter
    (λ k. let i = first + months_in_quarter * (c % contracts_in_year - first_quarter) in let e : quarter_of i ≡ c = omega arith in omega (arith, a.within m i q (omega arith), ap size e))
    (λ k. let i = first + (c % contracts_in_year - january) in let e : month_of i ≡ c = omega arith in omega (arith, a.within m i q (omega arith), ap size e))))

-- the rows may be told by other words
pub bounded_same : {n b : ℕ} {R R' : ℕ → ℕ → ℤ} → ((c m : ℕ) → c < contract_count → m < n → R' c m ≡ R c m) → Bounded n b R → Bounded n b R'
bounded_same {R = R} {R' = R'} e a = record {
  within = λ m i q k. omega (arith, a.within m i q k, ap nat_abs (e (year_of i) m (omega arith) q), ap nat_abs (e (quarter_of i) m (omega arith) q), ap nat_abs (e (month_of i) m (omega arith) q));
  apart = λ c m q w l. omega (arith, a.apart c m q w l, ap nat_abs (e c m l q));
}

-- ---- posting
-- one contract is at most one of the three
one_of_three : (c i : ℕ) (w : ℤ) → three_rows (λ d. when (eqb c d) w) i ≤ nat_abs w
one_of_three c i w =
    same_or c (year_of i) (λ e. rw (eq-eqb c (year_of i) e, ne_eqb c (quarter_of i) (omega arith), ne_eqb c (month_of i) (omega arith)) (omega arith))
    (λ d. same_or c (quarter_of i) (λ e. rw (ne_eqb c (year_of i) d, eq-eqb c (quarter_of i) e, ne_eqb c (month_of i) (omega arith)) (omega arith))
    (λ f. rw (ne_eqb c (year_of i) d, ne_eqb c (quarter_of i) f) (omega (arith, abs_when (eqb c (month_of i)) w))))

three_plus : (r s : ℕ → ℤ) (i : ℕ) → three_rows (λ c. r c +ℤ s c) i ≤ three_rows r i + three_rows s i
three_plus r s i = omega (arith, abs_plus (r (year_of i)) (s (year_of i)), abs_plus (r (quarter_of i)) (s (quarter_of i)), abs_plus (r (month_of i)) (s (month_of i)))

-- a line adds at most w for each of its lots
module _ (amount : Line → ℤ) (w : ℕ) where
  abbrev pub Weighs : Line → Type 0
  Weighs l = nat_abs (amount l) ≤ w * nat_abs l.lots

  lines_three : (ls : List Line) (m i : ℕ) → All Weighs ls → three_rows (λ c. row_total amount c m ls) i ≤ w * line_run ls
  unfolding row_total line_run total
  lines_three [] m i h = omega arith
  lines_three (l ∷ ls) m i h =
      let v = when (eqb l.member m) (amount l) in
      omega (
        arith,
        three_plus (λ c. when (eqb l.contract c) v) (λ c. row_total amount c m ls) i,
        one_of_three l.contract i v,
        abs_when (eqb l.member m) (amount l),
        h.0,
        lines_three ls m i h.1,
        mul-add w (nat_abs l.lots) (line_run ls),
      )

  -- what lines add to one row is at most their run times w
  pub lines_one : (ls : List Line) (c m : ℕ) → All Weighs ls → nat_abs (row_total amount c m ls) ≤ w * line_run ls
  unfolding row_total line_run total
  lines_one [] c m h = omega arith
  lines_one (l ∷ ls) c m h =
      let v = when (eqb l.member m) (amount l) in
      omega (
        arith,
        abs_plus (when (eqb l.contract c) v) (row_total amount c m ls),
        abs_when (eqb l.contract c) v,
        abs_when (eqb l.member m) (amount l),
        h.0,
        lines_one ls c m h.1,
        mul-add w (nat_abs l.lots) (line_run ls),
      )

  pub bounded_posted : {n : ℕ} {R : ℕ → ℕ → ℤ} (run : ℕ) (ls : List Line) → All Weighs ls → Bounded n (w * run) R
      → Bounded n (w * (run + line_run ls)) (λ c m. R c m +ℤ row_total amount c m ls)
  bounded_posted {R = R} run ls h a = record {
    within = λ m i q k. omega (arith, three_plus (λ c. R c m) (λ c. row_total amount c m ls) i, lines_three ls m i h, a.within m i q k, mul-add w run (line_run ls));
    apart = λ c m q k l. omega (arith, abs_plus (R c m) (row_total amount c m ls), lines_one ls c m h, a.apart c m q k l, mul-add w run (line_run ls));
  }

-- what a row may reach for each lot run: its lots one, its value the highest price
abbrev pub weight : Column → ℕ
weight lots = 1
weight value = most_price

pub lines_weigh : (x : Column) (ls : List Line) → All (λ l. l.price ≤ most_price) ls → All (Weighs (amount x) (weight x)) ls
lines_weigh lots ls h = all_map (λ l. l.price ≤ most_price) (Weighs (amount lots) 1) ls (λ l _. omega arith) h
lines_weigh value ls h =
    all_map (λ l. l.price ≤ most_price) (Weighs (amount value) most_price) ls (λ l q. omega (arith, abs_times l.lots (pos l.price), mul-le-mul_left (nat_abs l.lots) q)) h

-- ---- cascades
-- Of three rows the first goes to the second, or the second to the third, or all stay.
to_next : (first second : Bool) (x y z w : ℤ) → (first ≡ true → w ≡ x) → (second ≡ true → w ≡ y) → (first ≡ true → second ≡ false)
    → nat_abs (cond first (pos 0) (x +ℤ pos 0)) + (nat_abs (cond second (pos 0) (y +ℤ when first w)) + nat_abs (z +ℤ when second w)) ≤ nat_abs x + (nat_abs y + nat_abs z)
to_next true second x y z w e f g = rw (g refl, e refl) (omega (arith, abs_plus y x, abs_plus z (pos 0)))
to_next false true x y z w e f g = rw (f refl) (omega (arith, abs_plus x (pos 0), abs_plus z y))
to_next false false x y z w e f g = omega (arith, abs_plus x (pos 0), abs_plus y (pos 0), abs_plus z (pos 0))

-- R' are the rows after a cascade of the year or quarter c, R those before it.
pub bounded_cascaded : {n b : ℕ} (c : ℕ) (R R' : ℕ → ℕ → ℤ) → c < term_count → c % contracts_in_year < january
    → ((d m : ℕ) → m < n → R' d m ≡ cond (eqb c d) (pos 0) (R d m +ℤ when (any (λ x. eqb x d) (children_of c)) (R c m)))
    → Bounded n b R → Bounded n b R'
bounded_cascaded c R R' t h after a = record {
  within = λ m i q k.
      let o = cascading c t h in
      le_trans
      (rw (after (year_of i) m q, after (quarter_of i) m q, after (month_of i) m q, year_no_child c i o, quarter_child c i o, month_child c i o, ne_eqb c (month_of i) (omega arith))
      (to_next (eqb c (year_of i)) (eqb c (quarter_of i)) (R (year_of i) m) (R (quarter_of i) m) (R (month_of i) m) (R c m)
      (λ t. ap (λ d. R d m) (eqb-true c (year_of i) t)) (λ t. ap (λ d. R d m) (eqb-true c (quarter_of i) t)) (λ t. ne_eqb c (quarter_of i) (omega (arith, eqb-true c (year_of i) t)))))
      (a.within m i q k);
  apart = λ d m q k l. rw (after d m q, ne_eqb c d (omega arith), no_term_child c d (cascading c t h) t k) (omega (arith, abs_plus (R d m) (pos 0), a.apart d m q k l));
}

-- in a column of rows
abbrev rows_in : List ℤ → ℕ → ℕ → ℤ
rows_in l c m = get_or l (row_place c m) (pos 0)

column_cascaded : {b : ℕ} (n c : ℕ) (l : List ℤ) → c < term_count → n ≤ most_members → rows_length ≤ length l → Bounded n b (rows_in l) → Bounded n b (rows_in (cascaded n c l))
column_cascaded n c l k q s a =
    le_or_lt january (c % contracts_in_year) (λ h. rw (cascaded_month n c l h) a)
    (λ h. bounded_cascaded c (rows_in l) (rows_in (cascaded n c l)) k h (λ d m p. cascaded_row n c l s k q d m h p) a)

-- tables with rows for their n members
pub record Roomy (n : ℕ) (t : Tables) : Type 0 where
  pub size : members t ≡ n
  pub lots_long : rows_length ≤ length t.lots
  pub value_long : rows_length ≤ length t.value

module _ (n : ℕ) (few : n ≤ most_members) where
  columns_cascaded : {b : ℕ} (cs : List ℕ) (l : List ℤ) → All (λ c. c < term_count) cs → rows_length ≤ length l → Bounded n b (rows_in l) → Bounded n b (rows_in (all_cascaded n cs l))
  unfolding all_cascaded
  columns_cascaded [] l h r a = a
  columns_cascaded (c ∷ cs) l h r a =
      columns_cascaded cs (cascaded n c l) h.1 (omega (arith, cascaded_length n c l r h.0 few)) (column_cascaded n c l h.0 few r a)

  pub bounded_closed : {b : ℕ} (x : Column) (cs : List ℕ) (t : Tables) → All (λ c. c < term_count) cs → Roomy n t → Bounded n b (row x t) → Bounded n b (row x (with_closed cs t))
  unfolding with_closed
  bounded_closed {b} lots cs t h r a = subst (λ s. Bounded n b (rows_in (all_cascaded s cs t.lots))) (sym r.size) (columns_cascaded cs t.lots h r.lots_long a)
  bounded_closed {b} value cs t h r a = subst (λ s. Bounded n b (rows_in (all_cascaded s cs t.value))) (sym r.size) (columns_cascaded cs t.value h r.value_long a)

-- ---- the lots run, and the test of damage
-- each column's rows do not pass the lots run
abbrev pub WithinRun : Tables → Type 0
WithinRun t = (x : Column) → Bounded (members t) (weight x * lots_run t) (row x t)

-- the same of each row alone: what the test of damage says
abbrev pub RowsWithin : Tables → Type 0
RowsWithin t = (x : Column) (c m : ℕ) → c < contract_count → m < members t → nat_abs (row x t c m) ≤ weight x * lots_run t

pub each_within : (t : Tables) → WithinRun t → RowsWithin t
each_within t a x = bounded_row (a x)

column_sound : (n b : ℕ) (l : List ℤ) → ((c m : ℕ) → c < contract_count → m < n → nat_abs (rows_in l c m) ≤ b) → every_row (λ z. leb (nat_abs z) b) n l ≡ true
unfolding every_row
column_sound n b l a =
    every_block_lem 32 _ contract_count l
    (λ c k. every_place (λ z. leb (nat_abs z) b) (pos 0) (take n (block row_width c l))
    (λ m h. let q : (m < n) × (m < row_width) = omega (arith, simp length-take at h) in
    rw (get_or-take n (block row_width c l) m (pos 0) q.0, block_at row_width c m l (pos 0) q.1) (le-leb (nat_abs (rows_in l c m)) b (a c m k q.0))))

column_gives : (n b : ℕ) (l : List ℤ) → n ≤ 32 → rows_length ≤ length l → every_row (λ z. leb (nat_abs z) b) n l ≡ true → (c m : ℕ) → c < contract_count → m < n → nat_abs (rows_in l c m) ≤ b
unfolding every_row
column_gives n b l few long e c m k q =
    let p : ℤ → Bool = λ z. leb (nat_abs z) b in
    let rows = take n (block row_width c l) in
    let one = all_place (λ z. p z ≡ true) (pos 0) rows (every_all p rows (block_passes 32 (λ r. every p (take n r)) contract_count l e c k)) m (simp (length-take, length-drop) (omega arith)) in
    leb-true (nat_abs (rows_in l c m)) b (rw (get_or-take n (block row_width c l) m (pos 0) q, block_at row_width c m l (pos 0) (omega arith)) at one)

pub rows_sound_holds : (t : Tables) → RowsWithin t → rows_sound t ≡ true
unfolding rows_sound
rows_sound_holds t a = rw (column_sound (members t) (lots_run t) t.lots (rw (one-mul (lots_run t)) at (a lots)), column_sound (members t) (most_price * lots_run t) t.value (a value))

pub rows_give : (t : Tables) → members t ≤ most_members → rows_length ≤ length t.lots → rows_length ≤ length t.value → rows_sound t ≡ true → RowsWithin t
unfolding rows_sound
rows_give t few l v e =
    let n = members t in
    let lotsAre = every_row (λ z. leb (nat_abs z) (lots_run t)) n t.lots in
    let valuesAre = every_row (λ z. leb (nat_abs z) (most_price * lots_run t)) n t.value in
    go (and_left lotsAre valuesAre e) (and_right lotsAre valuesAre e)
  where
    go : every_row (λ z. leb (nat_abs z) (lots_run t)) (members t) t.lots ≡ true → every_row (λ z. leb (nat_abs z) (most_price * lots_run t)) (members t) t.value ≡ true → RowsWithin t
    go a b lots c m k q = omega (arith, column_gives (members t) (lots_run t) t.lots few l a c m k q)
    go a b value c m k q = column_gives (members t) (most_price * lots_run t) t.value few v b c m k q

-- ---- the fresh ledger
pub bounded_fresh : (h : Header) (t : Tables) → SoundHeader h → rows_length ≤ length t.lots → rows_length ≤ length t.value → (x : Column) → Bounded h.members 0 (row x (fresh h t))
bounded_fresh h t f s v x =
    bounded_same (λ c m k q. fresh_zero h t f s v x c m k q) (record { within = λ m i q k. omega arith; apart = λ c m q k l. omega arith })

pub within_fresh : (h : Header) (t : Tables) → SoundHeader h → head_length ≤ length t.head → rows_length ≤ length t.lots → rows_length ≤ length t.value → WithinRun (fresh h t)
within_fresh h t f k s v x =
    subst (λ n. Bounded n (weight x * lots_run (fresh h t)) (row x (fresh h t))) (sym (fresh_runs h t f k).size)
    (record {
      within = λ m i q l. omega (arith, (bounded_fresh h t f s v x).within m i q l);
      apart = λ c m q l u. omega (arith, (bounded_fresh h t f s v x).apart c m q l u);
    })
