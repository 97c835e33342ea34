-- A cascade, row by row: contract c and member m stand at c * 32 + m of a column. Assumes nothing.
use mathlib.Core.Path.{◌≡◌, refl, sym, ap, ap₂, ◌∙◌}
use mathlib.Core.Bool.{cond}
use mathlib.Core.List.{List, zip_with}
use Prim.Native.Nat.{ℕ, zero, suc, ◌+◌, ◌*◌, ◌%◌, ◌≤◌, ◌<◌}
use native.Mathlib.Omega.{arith}
use lib.Dec.{eqb}
use lib.ListN.{length, drop, get_or, replicate, length-take, length-drop, length-replicate, get_or-replicate}
use lib.Seq.{get_or-take, get_or-drop}
use lib.IntN.{ℤ, pos, ◌+ℤ◌, +ℤ_assoc}
use borrow.Author.Tests.{lt-leb, le-leb, lt-ltb, eqb-true, ne_eqb}
use Rattle.arith.specs.Lists.{any, from, over}
use Rattle.arith.specs.Ints.{when}
use Rattle.arith.proofs.Tests.{by_eqb, le_or_lt, same_or, and_false}
use Rattle.arith.proofs.Among.{not_among}
use Rattle.arith.proofs.Sums.{sorted}
use Rattle.arith.proofs.Terms.{when_or}
use Rattle.arith.proofs.Overs.{over_length, over_inside, over_outside, zip_length, zip_at}
use Rattle.rules.specs.Ranges.{contract_count, term_count}
use Rattle.rules.specs.ContractTerms.{has_term, children_of}
use Rattle.rules.specs.Ledger.{rows_length}
use Rattle.rules.specs.CloseOfDay.{contract_rows, added_to, zero_rows, cascaded}
use Rattle.rules.specs.OtherForms.{first_month_of}
use Rattle.rules.proofs.HourLaws.{Cascading, year, quarter, cascading}

abbrev pub row_of : List ℤ → ℕ → ℕ → ℤ
row_of l c m = get_or l (c * 32 + m) (pos 0)

-- The first n rows of a contract.
module _ (n c : ℕ) (l : List ℤ) (s : rows_length ≤ length l) (hc : c < contract_count) (hn : n ≤ 32) where
  pub rows_length_lem : length (contract_rows n c l) ≡ n
  rows_length_lem = simp (length-take, length-drop) (omega arith)

  pub rows_at : (m : ℕ) → m < n → get_or (contract_rows n c l) m (pos 0) ≡ row_of l c m
  rows_at m hm = get_or-take n (drop (c * 32) l) m (pos 0) hm ∙ get_or-drop (c * 32) l m (pos 0)

  -- new ones in their place
  module _ (xs : List ℤ) (e : length xs ≡ n) where
    pub put_length : length (over (c * 32) xs l) ≡ length l
    put_length = over_length (c * 32) xs l (omega arith)

    pub put_row : (d m : ℕ) → m < n → row_of (over (c * 32) xs l) d m ≡ cond (eqb c d) (get_or xs m (pos 0)) (row_of l d m)
    put_row d m hm =
        by_eqb (λ b. row_of (over (c * 32) xs l) d m ≡ cond b (get_or xs m (pos 0)) (row_of l d m)) c d
        (λ q. rw (← q) (over_inside (c * 32) xs l (omega arith) m (pos 0) (omega arith)))
        (λ q. over_outside (c * 32) xs l (omega arith) (d * 32 + m) (pos 0) (λ h. same_or c d (λ z. absurd (q z)) (λ z. omega arith)))

module _ (n p : ℕ) (hp : p < contract_count) (hn : n ≤ 32) where
  -- p's rows added to those of a later contract
  module _ (c : ℕ) (l : List ℤ) (s : rows_length ≤ length l) (hc : c < contract_count) (hl : p < c) where
    abbrev pub sums : List ℤ
    sums = zip_with ◌+ℤ◌ (contract_rows n c l) (contract_rows n p l)

    abbrev pub grown : List ℤ
    grown = over (c * 32) sums l

    pub sums_length : length sums ≡ n
    sums_length = zip_length ◌+ℤ◌ _ _ (rows_length_lem n c l s hc hn ∙ sym (rows_length_lem n p l s hp hn)) ∙ rows_length_lem n c l s hc hn

    pub grown_length : length grown ≡ length l
    grown_length = put_length n c l s hc hn _ sums_length

    pub grown_row : (d m : ℕ) → m < n → row_of grown d m ≡ row_of l d m +ℤ when (eqb c d) (row_of l p m)
    grown_row d m hm =
        put_row n c l s hc hn _ sums_length d m hm
        ∙ by_eqb (λ b. cond b (get_or sums m (pos 0)) (row_of l d m) ≡ row_of l d m +ℤ when b (row_of l p m)) c d
        (λ q. zip_at ◌+ℤ◌ _ _ m (pos 0) (rw (rows_length_lem n c l s hc hn) hm) (rw (rows_length_lem n p l s hp hn) hm)
        ∙ rw (rows_at n c l s hc hn m hm, rows_at n p l s hp hn m hm, q))
        (λ q. simp sorted)

  -- a contract's rows added to those of k later contracts that follow each other
  pub added_length : (k a : ℕ) (l : List ℤ) → rows_length ≤ length l → a + k ≤ contract_count → p < a → length (added_to n p (from a k) l) ≡ length l
  unfolding added_to from
  added_length zero a l s ha hl = refl
  added_length (suc k) a l s ha hl =
      let e = grown_length a l s (omega arith) hl in
      added_length k (suc a) (grown a l s (omega arith) hl) (omega arith) (omega arith) (omega arith) ∙ e

  pub added_row : (k a : ℕ) (l : List ℤ) (d m : ℕ) → rows_length ≤ length l → a + k ≤ contract_count → p < a → m < n
      → row_of (added_to n p (from a k) l) d m ≡ row_of l d m +ℤ when (any (λ x. eqb x d) (from a k)) (row_of l p m)
  unfolding added_to from any
  added_row zero a l d m s ha hl hm = simp sorted
  added_row (suc k) a l d m s ha hl hm =
      let e = grown_length a l s (omega arith) hl in
      let h : a < contract_count = omega arith in
      let g = grown a l s h hl in
      let later = any (λ x. eqb x d) (from (suc a) k) in
      let stays : row_of g p m ≡ row_of l p m = grown_row a l s h hl p m hm ∙ rw (ne_eqb a p (omega arith)) (simp sorted) in
      added_row k (suc a) g d m (omega arith) (omega arith) (omega arith) hm
      ∙ ap₂ (λ r w. r +ℤ when later w) (grown_row a l s h hl d m hm) stays
      ∙ rw (when_or (eqb a d) later (row_of l p m) (λ t. not_among (suc a) k d (omega (arith, eqb-true a d t)))) (simp +ℤ_assoc)

-- The children of a contract that cascades follow each other, after it.
pub record Children (c : ℕ) : Type 0 where
  pub first : ℕ
  pub more : ℕ
  pub are : children_of c ≡ from first (suc more)
  pub after : c < first
  pub fit : first + suc more ≤ term_count
  pub parent : c % 17 ≤ 4

pub children : (c : ℕ) → c < term_count → Cascading c → Children c
children c h (year z e) = record { first = c + 1; more = 3; are = e; after = omega arith; fit = omega arith; parent = omega arith }
children c h (quarter z y e) = record { first = first_month_of c; more = 2; are = e; after = omega arith; fit = omega arith; parent = omega arith }

-- A month's rows stay.
pub cascaded_month : (n c : ℕ) (l : List ℤ) → 5 ≤ c % 17 → cascaded n c l ≡ l
unfolding cascaded
cascaded_month n c l h = rw (lt-leb (c % 17) 4 h, and_false (has_term c))

module _ (n c : ℕ) (l : List ℤ) (s : rows_length ≤ length l) (hc : c < term_count) (hn : n ≤ 32) where
  module _ (k : Children c) where
    abbrev pub grown_all : List ℤ
    grown_all = added_to n c (from k.first (suc k.more)) l

    all_length : length grown_all ≡ length l
    all_length = added_length n c (omega arith) hn (suc k.more) k.first l s (omega (arith, k.fit)) k.after

    pub cascaded_parent : cascaded n c l ≡ over (c * 32) (replicate n (pos 0)) grown_all
    unfolding cascaded zero_rows
    cascaded_parent = rw (lt-ltb c term_count hc, le-leb (c % 17) 4 k.parent, k.are)

    parent_length : length (cascaded n c l) ≡ length l
    parent_length = rw cascaded_parent (put_length n c grown_all (omega (arith, all_length)) (omega arith) hn _ (length-replicate n (pos 0)) ∙ all_length)

    parent_row : (d m : ℕ) → m < n → row_of (cascaded n c l) d m ≡ cond (eqb c d) (pos 0) (row_of l d m +ℤ when (any (λ x. eqb x d) (children_of c)) (row_of l c m))
    parent_row d m hm =
        rw (cascaded_parent, k.are)
        (put_row n c grown_all (omega (arith, all_length)) (omega arith) hn _ (length-replicate n (pos 0)) d m hm
        ∙ ap₂ (λ z r. cond (eqb c d) z r) (get_or-replicate n m (pos 0) (pos 0) hm) (added_row n c (omega arith) hn (suc k.more) k.first l d m s (omega (arith, k.fit)) k.after hm))

  pub cascaded_length : length (cascaded n c l) ≡ length l
  cascaded_length = le_or_lt 5 (c % 17) (λ h. ap length (cascaded_month n c l h)) (λ h. parent_length (children c hc (cascading c hc h)))

  -- A year's or quarter's rows are added to its children's, and set to zero.
  pub cascaded_row : (d m : ℕ) → c % 17 < 5 → m < n
      → get_or (cascaded n c l) (d * 32 + m) (pos 0)
      ≡ cond (eqb c d) (pos 0) (get_or l (d * 32 + m) (pos 0) +ℤ when (any (λ x. eqb x d) (children_of c)) (get_or l (c * 32 + m) (pos 0)))
  cascaded_row d m h hm = parent_row (children c hc (cascading c hc h)) d m hm
