-- The loops of the cascade, one turn at a time: no row comes near the end of its place. Assumes nothing.
use mathlib.Core.Path.{◌≡◌, refl, sym, ap, subst, ◌∙◌}
use mathlib.Core.Bool.{Bool, false, cond}
use mathlib.Core.List.{List, [], ◌∷◌, ◌++◌, map, zip_with}
use Prim.Native.Nat.{ℕ, zero, suc, ◌+◌, ◌*◌, ◌-◌, ◌/◌, ◌%◌, ◌^◌, ◌≤◌, ◌<◌}
use native.Mathlib.Omega.{arith}
use native.Mathlib.Nat.{add-zero, sub-zero, suc-mul}
use native.Mathlib.Numerals.{add-one}
use lib.Dec.{eqb}
use lib.ListN.{length, take, drop, get_or}
use lib.Seq.{length-take-le, get_or-append-add, get_or-drop, ext_get_or}
use lib.IntN.{ℤ, pos, nat_abs, ◌+ℤ◌, +ℤ_idr}
use borrow.Author.Tests.{ne_eqb}
use Rattle.arith.specs.Ints.{when}
use Rattle.arith.specs.Lists.{any, from, over, kept}
use Rattle.arith.proofs.Among.{not_among}
use Rattle.arith.proofs.Sizes.{abs_plus, abs_when}
use Rattle.arith.proofs.Tests.{by_bool, true_or, le_or_lt}
use Rattle.arith.proofs.Scans.{from_next, from_end}
use Rattle.arith.proofs.Appends.{kept_append}
use Rattle.rules.specs.declared.contract.ContractKind.{ContractKind}
use Rattle.rules.specs.declared.contract.ContractKind.TheVariants.{Year, Quarter, Month}
use Rattle.rules.specs.Ranges.{contract_count, term_count}
use Rattle.rules.specs.ContractTerms.{children_of, contracts_of}
use Rattle.rules.specs.Ledger.{rows_length}
use Rattle.rules.specs.OtherForms.{contract_of, contracts_in, first_month_of}
use Rattle.rules.proofs.CalendarLaws.{contracts_of_lem}
use Rattle.rules.proofs.HourLaws.{Cascading, year, quarter, cascading}
use Rattle.rules.specs.CloseOfDay.{contract_rows, added_to, cascaded, all_cascaded}
use Rattle.rules.proofs.Cascade.{row_of, rows_length_lem, rows_at, put_length, put_row, sums, sums_length, cascaded_month, cascaded_length, cascaded_row}
use Rattle.tables.specs.Fit.{RowsFit}
use Rattle.contract_phases.specs.declared.by_contract.Phase.{Phase}
use Rattle.contract_phases.specs.Phases.{closes, closing}
use Rattle.contract_phases.proofs.Phases.{number_below}

-- ---- lists
pub zip_take : {A : Type 0} (f : A → A → A) (n : ℕ) (xs ys : List A) → length xs ≤ n → zip_with f xs (take n ys) ≡ zip_with f xs ys
unfolding zip_with
zip_take f n [] ys h = refl
zip_take f zero (x ∷ xs) ys h = absurd (omega arith)
zip_take f (suc n) (x ∷ xs) [] h = refl
zip_take f (suc n) (x ∷ xs) (y ∷ ys) h = ap (λ r. f x y ∷ r) (zip_take f n xs ys (omega arith))

pub zip_short : {A : Type 0} (f : A → A → A) (xs ys : List A) → length xs ≤ length ys → length (zip_with f xs ys) ≡ length xs
unfolding zip_with
zip_short f [] ys h = refl
zip_short f (x ∷ xs) [] h = absurd (omega arith)
zip_short f (x ∷ xs) (y ∷ ys) h = ap suc (zip_short f xs ys (omega arith))

-- behind what is written so far stands what stood there
pub front_rest : {A : Type 0} (n : ℕ) (s d : List A) (z : A) → n ≤ length s → get_or (take n s ++ drop n d) n z ≡ get_or d n z
front_rest n s d z h =
    let e : n ≡ length (take n s) + 0 = omega (arith, length-take-le n s h) in
    ap (λ i. get_or (take n s ++ drop n d) i z) e ∙ get_or-append-add (take n s) (drop n d) 0 z ∙ get_or-drop n d 0 z ∙ ap (λ i. get_or d i z) (add-zero n)

-- ---- a parent's rows added to one child after the other
-- A parent's rows stay where a later contract's are written.
parent_stays : (n p c : ℕ) (xs l : List ℤ) → rows_length ≤ length l → p < c → c < contract_count → n ≤ 32 → length xs ≡ n → contract_rows n p (over (c * 32) xs l) ≡ contract_rows n p l
parent_stays n p c xs l s h b q e =
    let put = over (c * 32) xs l in
    let long : rows_length ≤ length put = omega (arith, put_length n c l s b q xs e) in
    let many = rows_length_lem n p put long (omega arith) q in
    ext_get_or (pos 0) (contract_rows n p put) (contract_rows n p l) (many ∙ sym (rows_length_lem n p l s (omega arith) q))
    (λ m k. let k' : m < n = omega (arith, many) in
    rows_at n p put long (omega arith) q m k' ∙ put_row n c l s b q xs e p m k' ∙ rw (ne_eqb c p (omega arith)) (sym (rows_at n p l s (omega arith) q m k')))

pub record Adding (n p end size : ℕ) (all parent : List ℤ) (child : ℕ) (rows : List ℤ) : Type 0 where
  pub after : p < child
  pub most : child ≤ end
  pub same : length rows ≡ size
  pub lent : take n parent ≡ contract_rows n p rows
  pub parent_fit : (m : ℕ) → m < n → nat_abs (get_or parent m (pos 0)) ≤ 2 ^ 61
  pub rest_fit : (c m : ℕ) → child ≤ c → c < contract_count → m < n → nat_abs (row_of rows c m) ≤ 2 ^ 61
  pub known : added_to n p (from child (end - child)) rows ≡ all

module _ (n p end size : ℕ) (all parent : List ℤ) (few : n ≤ 32) (last : end ≤ contract_count) (long : rows_length ≤ size) where
  pub adding_next : (child : ℕ) (rows : List ℤ) → child < end → Adding n p end size all parent child rows
      → Adding n p end size all parent (child + 1) (over (child * 32) (zip_with ◌+ℤ◌ (contract_rows n child rows) parent) rows)
  unfolding added_to
  adding_next child rows h a =
      let s : rows_length ≤ length rows = omega (arith, a.same) in
      let hp : p < contract_count = omega (arith, a.after) in
      let b : child < contract_count = omega arith in
      let mine = contract_rows n child rows in
      let xs = sums n p hp few child rows s b a.after in
      let many = sums_length n p hp few child rows s b a.after in
      let is : zip_with ◌+ℤ◌ mine parent ≡ xs = sym (zip_take ◌+ℤ◌ n mine parent (omega (arith, rows_length_lem n child rows s b few))) ∙ ap (zip_with ◌+ℤ◌ mine) a.lent in
      rw is (record {
        after = omega (arith, a.after);
        most = omega arith;
        same = put_length n child rows s b few xs many ∙ a.same;
        lent = a.lent ∙ sym (parent_stays n p child xs rows s a.after b few many);
        parent_fit = a.parent_fit;
        rest_fit = λ c m l u k. rw (put_row n child rows s b few xs many c m k, ne_eqb child c (omega arith)) (a.rest_fit c m (omega arith) u k);
        known = rw (from_next child end h) at a.known;
      })

-- ---- contracts of a kind, one after the other
-- No contract of a kind is a child of another.
not_child : (s : ContractKind) (i j : ℕ) → contracts_in s ≤ 24 → contract_of s i < term_count → any (λ x. eqb x (contract_of s j)) (children_of (contract_of s i)) ≡ false
not_child Year i j f b = go (cascading (17 * i) b (omega arith))
  where
    go : Cascading (17 * i) → any (λ x. eqb x (17 * j)) (children_of (17 * i)) ≡ false
    go (year z e) = rw e (not_among (17 * i + 1) 4 (17 * j) (λ l u. le_or_lt j i (λ q. omega arith) (λ q. omega arith)))
    go (quarter z y e) = absurd (omega arith)
not_child Quarter i j f b = go (cascading (contract_of Quarter i) b (omega arith))
  where
    go : Cascading (contract_of Quarter i) → any (λ x. eqb x (contract_of Quarter j)) (children_of (contract_of Quarter i)) ≡ false
    go (year z e) = absurd (omega arith)
    go (quarter z y e) =
        let y : contract_of Quarter i / 17 ≡ i / 4 = omega arith in
        let r : contract_of Quarter i % 17 ≡ 1 + i % 4 = omega arith in
        rw e (not_among (first_month_of (contract_of Quarter i)) 3 (contract_of Quarter j) (λ l u. le_or_lt (j / 4) (i / 4) (λ q. omega arith) (λ q. omega arith)))
not_child Month i j f b = absurd (omega arith)

pub number_parent : (s : ContractKind) (i : ℕ) → contracts_in s ≤ 24 → contract_of s i % 17 ≤ 4
number_parent Year i h = omega arith
number_parent Quarter i h = omega arith
number_parent Month i h = absurd (omega arith)

-- a cascade adds a parent's row to another at most once
module _ (n c x b : ℕ) (l : List ℤ) (few : n ≤ 32) (below : c < term_count) (parent : c % 17 ≤ 4) (fit : RowsFit n x l) where
  pub cascade_fit : ((m : ℕ) → m < n → nat_abs (row_of l c m) ≤ b) → RowsFit n (x + b) (cascaded n c l)
  cascade_fit h =
      record {
        long = omega (arith, cascaded_length n c l fit.long below few, fit.long);
        within = λ d m u k. rw (cascaded_row n c l fit.long below few d m (omega arith) k)
            (by_bool (λ t. nat_abs (cond t (pos 0) (row_of l d m +ℤ when (any (λ x. eqb x d) (children_of c)) (row_of l c m))) ≤ x + b) (eqb c d)
            (λ _. omega arith)
            (λ _. omega (
              arith,
              abs_plus (row_of l d m) (when (any (λ x. eqb x d) (children_of c)) (row_of l c m)),
              abs_when (any (λ x. eqb x d) (children_of c)) (row_of l c m),
              fit.within d m u k,
              h m k,
            )));
      }

  pub cascade_other : (d m : ℕ) → m < n → any (λ x. eqb x d) (children_of c) ≡ false → nat_abs (row_of l d m) ≤ b → nat_abs (row_of (cascaded n c l) d m) ≤ b
  cascade_other d m k e h =
      rw (cascaded_row n c l fit.long below few d m (omega arith) k, e)
      (by_bool (λ t. nat_abs (cond t (pos 0) (row_of l d m +ℤ pos 0)) ≤ b) (eqb c d) (λ _. omega arith) (λ _. rw (+ℤ_idr (row_of l d m)) h))

-- the first i contracts of a kind are done: no row has grown by more than one parent's for each
pub record KindRun (n size b : ℕ) (s : ContractKind) (column : List Phase) (all : List ℤ) (i : ℕ) (rows : List ℤ) : Type 0 where
  pub most : i ≤ contracts_in s
  pub same : length rows ≡ size
  pub fit : RowsFit n ((i + 1) * b) rows
  pub kind_fit : (j m : ℕ) → j < contracts_in s → m < n → nat_abs (row_of rows (contract_of s j) m) ≤ b
  pub known : all_cascaded n (kept (closes column) (map (contract_of s) (from i (contracts_in s - i)))) rows ≡ all

module _ (n size b : ℕ) (s : ContractKind) (column : List Phase) (all : List ℤ) (few : n ≤ 32) (parents : contracts_in s ≤ 24) where
  pub kind_next : (i : ℕ) (rows : List ℤ) → i < contracts_in s → KindRun n size b s column all i rows
      → KindRun n size b s column all (i + 1) (cond (closes column (contract_of s i)) (cascaded n (contract_of s i) rows) rows)
  unfolding kept all_cascaded
  kind_next i rows h r =
      let c = contract_of s i in
      let below = number_below s i h in
      let parent = number_parent s i parents in
      let grown : (i + 1 + 1) * b ≡ (i + 1) * b + b = rw (add-one (i + 1), suc-mul (i + 1) b) in
      let rest = map (contract_of s) (from (i + 1) (contracts_in s - (i + 1))) in
      let known = rw (from_next i (contracts_in s) h) at r.known in
      true_or (closes column c)
      (λ e. rw e (record {
        most = omega arith;
        same = cascaded_length n c rows r.fit.long below few ∙ r.same;
        fit = rw grown (cascade_fit n c ((i + 1) * b) b rows few below parent r.fit (λ m k. r.kind_fit i m h k));
        kind_fit = λ j m u k. cascade_other n c ((i + 1) * b) b rows few below parent r.fit (contract_of s j) m k (not_child s i j parents below) (r.kind_fit j m u k);
        known = rw e at known;
      }))
      (λ e. rw e (record {
        most = omega arith;
        same = r.same;
        fit = record { long = r.fit.long; within = λ d m u k. omega (arith, grown, r.fit.within d m u k) };
        kind_fit = r.kind_fit;
        known = rw e at known;
      }))

  pub kind_start : (rows : List ℤ) → length rows ≡ size → RowsFit n b rows → all_cascaded n (kept (closes column) (contracts_of s)) rows ≡ all → KindRun n size b s column all 0 rows
  kind_start rows same fit known =
      let one : (0 + 1) * b ≡ b = omega arith in
      record {
        most = omega arith;
        same = same;
        fit = rw one fit;
        kind_fit = λ j m u k. fit.within (contract_of s j) m (omega (arith, number_below s j u)) k;
        known = rw (contracts_of_lem s, ← sub-zero (contracts_in s)) at known;
      }

  pub kind_end : (i : ℕ) (rows : List ℤ) → contracts_in s ≤ i → KindRun n size b s column all i rows → rows ≡ all
  unfolding kept all_cascaded
  kind_end i rows h r = rw (from_end i (contracts_in s) h) at r.known

  run_fit : (k i : ℕ) (rows : List ℤ) → i + k ≡ contracts_in s → KindRun n size b s column all i rows → RowsFit n ((contracts_in s + 1) * b) all
  run_fit zero i rows e r =
      let last : i ≡ contracts_in s = omega arith in
      subst (RowsFit n ((contracts_in s + 1) * b)) (kind_end i rows (omega arith) r) (rw last at r.fit)
  run_fit (suc k) i rows e r = run_fit k (i + 1) _ (omega arith) (kind_next i rows (omega arith) r)

-- after the contracts of a kind no row has grown by more than one parent's for each
pub kind_fit_after : (n b : ℕ) (s : ContractKind) (column : List Phase) (rows : List ℤ) → n ≤ 32 → contracts_in s ≤ 24 → RowsFit n b rows
    → RowsFit n ((contracts_in s + 1) * b) (all_cascaded n (kept (closes column) (contracts_of s)) rows)
kind_fit_after n b s column rows few parents fit =
    run_fit n (length rows) b s column _ few parents (contracts_in s) 0 rows (omega arith) (kind_start n (length rows) b s column _ few parents rows refl fit refl)

-- ---- all closing contracts
cascaded_append : (n : ℕ) (xs ys : List ℕ) (l : List ℤ) → all_cascaded n (xs ++ ys) l ≡ all_cascaded n ys (all_cascaded n xs l)
unfolding all_cascaded
cascaded_append n [] ys l = refl
cascaded_append n (x ∷ xs) ys l = cascaded_append n xs ys (cascaded n x l)

months_stay : (n : ℕ) (p : ℕ → Bool) (k i : ℕ) (l : List ℤ) → all_cascaded n (kept p (map (contract_of Month) (from i k))) l ≡ l
unfolding all_cascaded kept from
months_stay n p zero i l = refl
months_stay n p (suc k) i l =
    true_or (p (contract_of Month i)) (λ e. rw e (months_stay n p k (suc i) (cascaded n (contract_of Month i) l) ∙ cascaded_month n (contract_of Month i) l (omega arith)))
    (λ e. rw e (months_stay n p k (suc i) l))

pub all_closed : (n : ℕ) (column : List Phase) (rows : List ℤ)
    → all_cascaded n (closing column) rows ≡ all_cascaded n (kept (closes column) (contracts_of Quarter)) (all_cascaded n (kept (closes column) (contracts_of Year)) rows)
unfolding closing
all_closed n column rows =
    let p = closes column in
    rw (
      kept_append p (contracts_of Year) (contracts_of Quarter ++ contracts_of Month),
      kept_append p (contracts_of Quarter) (contracts_of Month),
      cascaded_append n (kept p (contracts_of Year)) (kept p (contracts_of Quarter) ++ kept p (contracts_of Month)) rows,
      cascaded_append n (kept p (contracts_of Quarter)) (kept p (contracts_of Month)) (all_cascaded n (kept p (contracts_of Year)) rows),
      contracts_of_lem Month,
    )
    (months_stay n p 72 0 _)
