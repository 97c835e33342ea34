-- What deal lines add to the rows, they add to the engine's account and to the other account alike.
use mathlib.Core.Path.{◌≡◌, refl, sym, ap, ◌∙◌}
use mathlib.Core.Bool.{Bool, true, false}
use mathlib.Core.List.{List, [], ◌∷◌, ◌++◌}
use Prim.Native.Nat.{ℕ, ◌<◌}
use lib.Dec.{eqb}
use lib.IntN.{ℤ, pos, ◌+ℤ◌, +ℤ_assoc, +ℤ_idl, +ℤ_idr}
use Rattle.arith.specs.Ints.{when, sum}
use Rattle.arith.proofs.Tests.{by_eqb, never}
use Rattle.arith.proofs.Sums.{sorted, when_zero, when_add, when_comm, sum_zero, sum_add, sum_ext, sum_at_lem}
use Rattle.arith.specs.Lists.{All}
use Rattle.rules.specs.Ranges.{contract_count}
use Rattle.rules.specs.Days.{Calendar}
use Rattle.rules.specs.ContractTerms.{holds_hour}
use Rattle.rules.specs.Ledger.{Line}
use Rattle.rules.specs.Accounts.{engine_account, entered, other_account}
use Rattle.accounts.proofs.Lines.{Fits, hour_total, member_total, row_total}

module _ (k : Calendar) (amount : Line → ℤ) (n : ℕ) where
  -- a line's amount stands in one contract's row
  line_in_hour : (l : Line) (m h : ℕ) → l.contract < contract_count
      → sum contract_count (λ c. when (holds_hour k c h) (when (eqb l.contract c) (when (eqb l.member m) (amount l))))
      ≡ when (eqb l.member m) (when (holds_hour k l.contract h) (amount l))
  line_in_hour l m h b =
      let w : ℤ = when (eqb l.member m) (amount l) in
      sum_ext contract_count (λ c. when (holds_hour k c h) (when (eqb l.contract c) w)) (λ c. when (eqb l.contract c) (when (holds_hour k l.contract h) w))
      (λ c _. by_eqb (λ x. when (holds_hour k c h) (when x w) ≡ when x (when (holds_hour k l.contract h) w)) l.contract c (λ e. rw e) (λ _. when_zero (holds_hour k c h)))
      ∙ sum_at_lem contract_count l.contract (when (holds_hour k l.contract h) w) b
      ∙ when_comm (holds_hour k l.contract h) (eqb l.member m) (amount l)

  rows_in_hour : (ls : List Line) (m h : ℕ) → All (Fits n) ls → sum contract_count (λ c. when (holds_hour k c h) (row_total amount c m ls)) ≡ member_total k amount m h ls
  unfolding row_total member_total
  rows_in_hour [] m h f = sum_ext contract_count _ (λ c. pos 0) (λ c _. when_zero (holds_hour k c h)) ∙ sum_zero contract_count
  rows_in_hour (l ∷ ls) m h f =
      let w : ℕ → ℤ = λ c. when (eqb l.contract c) (when (eqb l.member m) (amount l)) in
      sum_ext contract_count _ (λ c. when (holds_hour k c h) (w c) +ℤ when (holds_hour k c h) (row_total amount c m ls)) (λ c _. when_add (holds_hour k c h) (w c) (row_total amount c m ls))
      ∙ sum_add contract_count (λ c. when (holds_hour k c h) (w c)) (λ c. when (holds_hour k c h) (row_total amount c m ls))
      ∙ rw (line_in_hour l m h f.0.contract<, rows_in_hour ls m h f.1)

  -- the engine's account
  pub engine_posted : (row : ℕ → ℕ → ℤ) (ls : List Line) (m h : ℕ) → All (Fits n) ls
      → engine_account k (λ c m. row c m +ℤ row_total amount c m ls) m h ≡ engine_account k row m h +ℤ member_total k amount m h ls
  unfolding engine_account
  engine_posted row ls m h f =
      sum_ext contract_count _ (λ c. when (holds_hour k c h) (row c m) +ℤ when (holds_hour k c h) (row_total amount c m ls)) (λ c _. when_add (holds_hour k c h) (row c m) (row_total amount c m ls))
      ∙ sum_add contract_count (λ c. when (holds_hour k c h) (row c m)) (λ c. when (holds_hour k c h) (row_total amount c m ls))
      ∙ rw (rows_in_hour ls m h f)

  -- the other account
  entered_total : (ls : List Line) (A : ℕ → ℕ → ℤ) (m h : ℕ) → entered k amount ls A m h ≡ A m h +ℤ member_total k amount m h ls
  unfolding entered member_total
  entered_total [] A m h = sym (+ℤ_idr (A m h))
  entered_total (l ∷ ls) A m h = entered_total ls _ m h ∙ simp +ℤ_assoc

  total_append : (xs ys : List Line) (m h : ℕ) → member_total k amount m h (xs ++ ys) ≡ member_total k amount m h xs +ℤ member_total k amount m h ys
  unfolding member_total
  total_append [] ys m h = sym (+ℤ_idl (member_total k amount m h ys))
  total_append (l ∷ xs) ys m h = simp (total_append xs ys m h, +ℤ_assoc)

  pub other_entered : (log ls : List Line) (m h : ℕ) → other_account k amount (log ++ ls) m h ≡ other_account k amount log m h +ℤ member_total k amount m h ls
  unfolding other_account
  other_entered log ls m h =
      rw (entered_total (log ++ ls) (λ m h. pos 0) m h, entered_total log (λ m h. pos 0) m h, total_append log ls m h) (simp sorted)

  -- over all members a line counts once
  pub members_total : (ls : List Line) (h : ℕ) → All (Fits n) ls → sum n (λ m. member_total k amount m h ls) ≡ hour_total k amount h ls
  unfolding member_total hour_total
  members_total [] h f = sum_zero n
  members_total (l ∷ ls) h f =
      let w : ℤ = when (holds_hour k l.contract h) (amount l) in
      sum_add n (λ m. when (eqb l.member m) w) (λ m. member_total k amount m h ls) ∙ rw (sum_at_lem n l.member w f.0.member<, members_total ls h f.1)

  -- a contract that no line names gets nothing
  pub row_untouched : (K : ℕ → Bool) (ls : List Line) (c m : ℕ) → All (λ l. K l.contract ≡ false) ls → K c ≡ true → row_total amount c m ls ≡ pos 0
  unfolding row_total
  row_untouched K [] c m f e = refl
  row_untouched K (l ∷ ls) c m f e =
      by_eqb (λ b. when b (when (eqb l.member m) (amount l)) +ℤ row_total amount c m ls ≡ pos 0) l.contract c
      (λ q. never (sym e ∙ ap K (sym q) ∙ f.0)) (λ q. rw (row_untouched K ls c m f.1 e))
