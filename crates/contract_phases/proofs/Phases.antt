-- What a column of phases says: which contracts close on the day and which are open. Assumes nothing.
use mathlib.Core.Path.{◌≡◌, refl, sym, ap, ◌∙◌}
use mathlib.Core.Bool.{Bool, true, cond, ◌&&◌, ◌||◌}
use mathlib.Core.List.{List, [], ◌∷◌, ◌++◌, map}
use Prim.Native.Nat.{ℕ, zero, suc, ◌+◌, ◌*◌, ◌≤◌, ◌<◌}
use native.Mathlib.Omega.{arith}
use native.Mathlib.Nat.{zero-add}
use lib.Dec.{eqb, ltb}
use lib.ListN.{length, get_or, take, length-map, get_or-eq_default}
use borrow.Author.Tests.{lt-ltb, le-ltb, le-leb, lt-leb, eq-eqb, ne_eqb}
use Rattle.std.specs.Prelude.{Option, Some, None}
use Rattle.arith.specs.Lists.{All, any, from, kept}
use Rattle.arith.proofs.Alls.{all_map, all_append, all_kept}
use Rattle.arith.proofs.Among.{by_among}
use Rattle.arith.proofs.Tests.{true_or, le_or_lt, same_or, and_true, and_false, or_false, any_append}
use Rattle.arith.proofs.Appends.{map_at, from_at, from_length}
use Rattle.rules.specs.declared.contract.ContractKind.{ContractKind}
use Rattle.rules.specs.declared.contract.ContractKind.TheVariants.{Year, Quarter, Month}
use Rattle.rules.specs.declared.contract.Term.{Term}
use Rattle.rules.specs.Ranges.{term_count}
use Rattle.rules.specs.Days.{Calendar, business_day_before}
use Rattle.rules.specs.ContractTerms.{has_term, kind_of, term_of, same_kind, open_count, contracts_of, months_in, closing_distance, term_first_day, term_closing_day}
use Rattle.rules.specs.ContractTerms.{closing_day, closes_on, is_on, not_before, still_to_close, open_of_kind, open_contracts}
use Rattle.rules.specs.OtherForms.{contract_of, contracts_in}
use Rattle.months.specs.Spans.{starts_of}
use Rattle.contracts.specs.InLedger.{InLedger}
use Rattle.contract_phases.specs.Least.{IsLeast}
use Rattle.contract_phases.proofs.Least.{first_read, in_span_lem}
use Rattle.rules.specs.declared.units.DayNo.{DayNo}
use Rattle.contract_phases.specs.declared.by_contract.Phase.{Phase}
use Rattle.contract_phases.specs.declared.by_contract.Phase.TheVariants.{Closed, Closing, Later}
use Rattle.contract_phases.specs.Phases.{is_closing, is_waiting, phase_numbered, number_of, phase_of, phase_from, term_phase, phases, closes, waits, open_in, all_open_in, closing}

-- ---- one contract
-- A contract's phase by its first delivery day, beside the least ones still to close on the day and on the day after.
by_days : (z : Option DayNo) (d : ℕ) → cond (not_before z d) (cond (not_before z (d + 1)) Later Closing) Closed ≡ phase_of z d
by_days (Some x) d =
    le_or_lt d x.0
    (λ l. same_or x.0 d (λ e. rw (le-leb d x.0 l, lt-leb (d + 1) x.0 (omega arith), le-ltb x.0 d l, eq-eqb x.0 d e))
    (λ e. rw (le-leb d x.0 l, le-leb (d + 1) x.0 (omega arith), le-ltb x.0 d l, ne_eqb x.0 d e)))
    (λ l. rw (lt-leb d x.0 l, lt-ltb x.0 d l))
by_days None d = refl

pub phase_by_first : (k : Calendar) (d : ℕ) (t : Term) → InLedger t → (least later : ℕ) → IsLeast k d (closing_distance t.kind) least → IsLeast k (d + 1) (closing_distance t.kind) later
    → phase_from (get_or (starts_of k) (months_in t.kind * t.index) 0) least later ≡ term_phase k d t
unfolding term_closing_day
phase_by_first k d t w least later g h =
    rw (first_read k t w, ← (g (term_first_day k t) (in_span_lem k t w)), ← (h (term_first_day k t) (in_span_lem k t w)))
    (by_days (business_day_before k (closing_distance t.kind) (term_first_day k t)) d)

pub number_below : (s : ContractKind) (i : ℕ) → i < contracts_in s → contract_of s i < term_count
number_below Year i h = omega arith
number_below Quarter i h = omega arith
number_below Month i h = omega arith

phase_closes : (z : Option DayNo) (d : ℕ) → is_closing (phase_of z d) ≡ is_on z d
phase_closes (Some x) d =
    same_or x.0 d (λ e. rw (eq-eqb x.0 d e, le-ltb x.0 d (omega arith)))
    (λ e. le_or_lt d x.0 (λ l. rw (ne_eqb x.0 d e, le-ltb x.0 d l)) (λ l. rw (ne_eqb x.0 d e, lt-ltb x.0 d l)))
phase_closes None d = refl

phase_waits : (z : Option DayNo) (d : ℕ) → is_waiting (phase_of z d) ≡ not_before z d
phase_waits (Some x) d =
    same_or x.0 d (λ e. rw (eq-eqb x.0 d e, le-ltb x.0 d (omega arith), le-leb d x.0 (omega arith)))
    (λ e. le_or_lt d x.0 (λ l. rw (ne_eqb x.0 d e, le-ltb x.0 d l, le-leb d x.0 l)) (λ l. rw (lt-ltb x.0 d l, lt-leb d x.0 l)))
phase_waits None d = refl

module _ (k : Calendar) (d : ℕ) where
  pub phases_length : length (phases k d) ≡ term_count
  unfolding phases
  phases_length = length-map (from 0 term_count) (λ c. phase_of (closing_day k c) d) ∙ from_length 0 term_count

  pub phases_at : (c : ℕ) → c < term_count → get_or (phases k d) c Closed ≡ phase_of (closing_day k c) d
  unfolding phases
  phases_at c h =
      map_at (λ c. phase_of (closing_day k c) d) (from 0 term_count) c 0 Closed (omega (arith, from_length 0 term_count))
      ∙ ap (λ c. phase_of (closing_day k c) d) (from_at 0 term_count c 0 h ∙ zero-add c)

  pub closes_is : (c : ℕ) → c < term_count → closes (phases k d) c ≡ closes_on k c d
  closes_is c h = rw (lt-ltb c term_count h) (ap is_closing (phases_at c h) ∙ phase_closes (closing_day k c) d)

  waits_is : (c : ℕ) → c < term_count → waits (phases k d) c ≡ still_to_close k d (term_of c)
  unfolding still_to_close
  waits_is c h = ap is_waiting (phases_at c h) ∙ phase_waits (closing_day k c) d

-- ---- all contracts
all_from : (P : ℕ → Type 0) (a n : ℕ) → ((i : ℕ) → a ≤ i → i < a + n → P i) → All P (from a n)
unfolding from
all_from P a zero f = tt
all_from P a (suc n) f = (f a (omega arith) (omega arith), all_from P (suc a) n (λ i l u. f i (omega arith) (omega arith)))

pub listed : (P : ℕ → Type 0) → ((c : ℕ) → c < term_count → P c) → (s : ContractKind) → All P (contracts_of s)
unfolding contracts_of
listed P f s =
    let test : ℕ → Bool = λ c. same_kind (kind_of c) s in
    all_map (λ c. P c × (test c ≡ true)) P (kept test (from 0 term_count)) (λ c h. h.0) (all_kept P test (from 0 term_count) (all_from P 0 term_count (λ i l u. f i (omega arith))))

pub kept_same : {A : Type 0} (p q : A → Bool) (l : List A) → All (λ c. p c ≡ q c) l → kept p l ≡ kept q l
unfolding kept
kept_same p q [] a = refl
kept_same p q (x ∷ l) a = rw (a.0, kept_same p q l a.1)

module _ (k : Calendar) (d : ℕ) where
  pub closing_is : closing (phases k d) ≡ kept (λ c. closes_on k c d) (contracts_of Year ++ (contracts_of Quarter ++ contracts_of Month))
  unfolding closing
  closing_is =
      let same = listed (λ c. closes (phases k d) c ≡ closes_on k c d) (closes_is k d) in
      kept_same (closes (phases k d)) (λ c. closes_on k c d) (contracts_of Year ++ (contracts_of Quarter ++ contracts_of Month))
      (all_append _ (contracts_of Year) _ (same Year) (all_append _ (contracts_of Quarter) _ (same Quarter) (same Month)))

  open_of_kind_lem : (s : ContractKind) → open_in (phases k d) s ≡ open_of_kind k d s
  unfolding open_in open_of_kind
  open_of_kind_lem s = rw (kept_same (waits (phases k d)) (λ c. still_to_close k d (term_of c)) (contracts_of s) (listed (λ c. waits (phases k d) c ≡ still_to_close k d (term_of c)) (waits_is k d) s))

  pub open_is : all_open_in (phases k d) ≡ open_contracts k d
  unfolding all_open_in open_contracts
  open_is = rw (open_of_kind_lem Year, open_of_kind_lem Quarter, open_of_kind_lem Month)

-- ---- a column of phases, or of what stands for them
pub place_read : {A : Type 0} (f : A → Phase) (column : List A) (c : ℕ) (x : A) → c < length column → x ≡ get_or column c x → f x ≡ get_or (map f column) c Closed
place_read f column c x h e = ap f e ∙ sym (map_at f column c x Closed h)

-- ---- a column of numbers: 1 closes, and all but 0 wait
pub closing_number : (n : ℕ) → is_closing (phase_numbered n) ≡ eqb n 1
closing_number n = same_or n 0 (λ e. rw e) (λ e. rw (ne_eqb n 0 e) (same_or n 1 (λ f. rw f) (λ f. rw (ne_eqb n 1 f))))

pub waiting_number : (n : ℕ) → is_waiting (phase_numbered n) ≡ ltb 0 n
waiting_number n = same_or n 0 (λ e. rw e) (λ e. rw (ne_eqb n 0 e, lt-ltb 0 n (omega arith)) (true_or (eqb n 1) (λ t. rw t) (λ t. rw t)))

pub number_back : (x : Phase) → phase_numbered (number_of x) ≡ x
number_back Closed = refl
number_back Closing = refl
number_back Later = refl

number_at : (column : List ℕ) (c : ℕ) → get_or (map phase_numbered column) c Closed ≡ phase_numbered (get_or column c 0)
number_at [] c = refl
number_at (n ∷ column) zero = refl
number_at (n ∷ column) (suc c) = number_at column c

kept_alike : (p q : ℕ → Bool) (l : List ℕ) → ((c : ℕ) → p c ≡ q c) → kept p l ≡ kept q l
unfolding kept
kept_alike p q [] e = refl
kept_alike p q (c ∷ l) e = rw (e c, kept_alike p q l e)

module _ (column : List ℕ) where
  pub number_closes : (c : ℕ) → closes (map phase_numbered column) c ≡ eqb (get_or column c 0) 1
  number_closes c = ap is_closing (number_at column c) ∙ closing_number (get_or column c 0)

  pub number_waits : (c : ℕ) → waits (map phase_numbered column) c ≡ ltb 0 (get_or column c 0)
  number_waits c = ap is_waiting (number_at column c) ∙ waiting_number (get_or column c 0)

  pub numbers_closing : closing (map phase_numbered column) ≡ kept (λ c. eqb (get_or column c 0) 1) (contracts_of Year ++ (contracts_of Quarter ++ contracts_of Month))
  unfolding closing
  numbers_closing = kept_alike (closes (map phase_numbered column)) (λ c. eqb (get_or column c 0) 1) _ number_closes

  pub numbers_open : (s : ContractKind) → open_in (map phase_numbered column) s ≡ take (open_count s) (kept (λ c. ltb 0 (get_or column c 0)) (contracts_of s))
  unfolding open_in
  numbers_open s = ap (take (open_count s)) (kept_alike (waits (map phase_numbered column)) (λ c. ltb 0 (get_or column c 0)) _ number_waits)

pub number_on : (x : DayNo) (d : ℕ) → number_of (phase_of (Some x) d) ≡ cond (ltb x.0 d) 0 (cond (eqb x.0 d) 1 2)
number_on x d =
    le_or_lt d x.0 (λ l. rw (le-ltb x.0 d l) (same_or x.0 d (λ e. rw (eq-eqb x.0 d e)) (λ e. rw (ne_eqb x.0 d e)))) (λ l. rw (lt-ltb x.0 d l))

-- ---- orders of closing contracts
any_kept : (p : ℕ → Bool) (x : ℕ) (l : List ℕ) → any (λ c. eqb c x) (kept p l) ≡ p x && any (λ c. eqb c x) l
unfolding any kept
any_kept p x [] = sym (and_false (p x))
any_kept p x (c ∷ l) =
    same_or c x
    (λ e. rw (e, eq-eqb x x refl) (true_or (p x) (λ t. rw (t, eq-eqb x x refl)) (λ t. rw t (any_kept p x l ∙ rw t))))
    (λ e. rw (ne_eqb c x e) (true_or (p c) (λ t. rw (t, ne_eqb c x e) (any_kept p x l)) (λ t. rw t (any_kept p x l))))

any_term : (x : ℕ) → any (λ c. eqb c x) (from 0 term_count) ≡ has_term x
any_term x = by_among (λ t. t ≡ has_term x) 0 term_count x (λ l u. sym (lt-ltb x term_count (omega arith)))
    (λ out. le_or_lt term_count x (λ h. sym (le-ltb x term_count h)) (λ h. absurd (out (omega arith) (omega arith))))

any_of_kind : (s : ContractKind) (x : ℕ) → any (λ c. eqb c x) (contracts_of s) ≡ same_kind (kind_of x) s && has_term x
unfolding contracts_of
any_of_kind s x = any_kept (λ c. same_kind (kind_of c) s) x (from 0 term_count) ∙ ap (λ t. same_kind (kind_of x) s && t) (any_term x)

some_kind : (k : ContractKind) (b : Bool) → same_kind k Year && b || (same_kind k Quarter && b || same_kind k Month && b) ≡ b
some_kind Year b = or_false b
some_kind Quarter b = or_false b
some_kind Month b = refl

-- A column has no place for a contract without a term.
closes_term : (column : List Phase) → length column ≡ term_count → (x : ℕ) → closes column x && has_term x ≡ closes column x
closes_term column e x =
    le_or_lt term_count x (λ h. let long : length column ≤ x = omega arith in rw (le-ltb x term_count h, get_or-eq_default column Closed long)) (λ h. rw (lt-ltb x term_count h) (and_true (closes column x)))

pub closing_order : (column : List Phase) → length column ≡ term_count → (x : ℕ) → any (λ c. eqb c x) (closing column) ≡ closes column x
unfolding closing
closing_order column e x =
    any_kept (closes column) x (contracts_of Year ++ (contracts_of Quarter ++ contracts_of Month))
    ∙ rw (
      any_append (λ c. eqb c x) (contracts_of Year) (contracts_of Quarter ++ contracts_of Month),
      any_append (λ c. eqb c x) (contracts_of Quarter) (contracts_of Month),
      any_of_kind Year x,
      any_of_kind Quarter x,
      any_of_kind Month x,
      some_kind (kind_of x) (has_term x),
    )
    (closes_term column e x)
