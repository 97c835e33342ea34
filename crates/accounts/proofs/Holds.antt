-- What holds of rows and a log of lines, and that posted lines keep it.
use mathlib.Core.Path.{◌≡◌, sym, ap, ◌∙◌}
use mathlib.Core.Bool.{Bool, true, false}
use mathlib.Core.List.{List, ◌++◌}
use Prim.Native.Nat.{ℕ, ◌<◌}
use lib.IntN.{ℤ, pos, ◌+ℤ◌}
use Rattle.arith.specs.Ints.{when, sum}
use Rattle.arith.proofs.Sums.{sum_add, sum_ext}
use Rattle.arith.specs.Lists.{All}
use Rattle.rules.specs.Ranges.{contract_count}
use Rattle.rules.specs.ContractTerms.{holds_hour}
use Rattle.rules.specs.Header.{Header, calendar_of}
use Rattle.rules.specs.Ledger.{Line}
use Rattle.rules.specs.Accounts.{Column, amount, DeliveryHour, engine_account, other_account}
use Rattle.accounts.proofs.Lines.{Fits, hour_total, member_total, row_total}
use Rattle.accounts.proofs.Posting.{engine_posted, other_entered, members_total, row_untouched}

abbrev pub Rows : Type 0
Rows = Column → ℕ → ℕ → ℤ

-- the two accounts agree, the other one sums to zero, and nothing is left in the contracts that are emptied
pub record Holds (h : Header) (rows : Rows) (log : List Line) (emptied : ℕ → Bool) : Type 0 where
  pub same : (x : Column) (m hour : ℕ) → m < h.members → DeliveryHour (calendar_of h) hour
      → engine_account (calendar_of h) (rows x) m hour ≡ other_account (calendar_of h) (amount x) log m hour
  pub zero : (x : Column) (hour : ℕ) → DeliveryHour (calendar_of h) hour → sum h.members (λ m. other_account (calendar_of h) (amount x) log m hour) ≡ pos 0
  pub empty : (x : Column) (c m : ℕ) → c < contract_count → m < h.members → emptied c ≡ true → rows x c m ≡ pos 0

-- the lines of a record, as they must be
pub record Fair (h : Header) (emptied : ℕ → Bool) (ls : List Line) : Type 0 where
  pub fits : All (Fits h.members) ls
  pub balanced : (x : Column) (hour : ℕ) → DeliveryHour (calendar_of h) hour → hour_total (calendar_of h) (amount x) hour ls ≡ pos 0
  pub clear : All (λ l. emptied l.contract ≡ false) ls

-- the rows may be told by other words
pub holds_same : (h : Header) (R R' : Rows) (log : List Line) (K : ℕ → Bool)
    → ((x : Column) (c m : ℕ) → c < contract_count → m < h.members → R' x c m ≡ R x c m) → Holds h R log K → Holds h R' log K
unfolding engine_account
holds_same h R R' log K e a = record {
  same = λ x m hour b d. sum_ext contract_count _ _ (λ c l. ap (λ z. when (holds_hour (calendar_of h) c hour) z) (e x c m l b)) ∙ a.same x m hour b d;
  zero = a.zero;
  empty = λ x c m l b t. e x c m l b ∙ a.empty x c m l b t;
}

pub holds_posted : (h : Header) (R : Rows) (log ls : List Line) (K : ℕ → Bool) → Fair h K ls → Holds h R log K
    → Holds h (λ x c m. R x c m +ℤ row_total (amount x) c m ls) (log ++ ls) K
holds_posted h R log ls K f a = record {
  same = λ x m hour b d. engine_posted (calendar_of h) (amount x) h.members (R x) ls m hour f.fits
      ∙ ap (λ z. z +ℤ member_total (calendar_of h) (amount x) m hour ls) (a.same x m hour b d)
      ∙ sym (other_entered (calendar_of h) (amount x) h.members log ls m hour);
  zero = λ x hour d. sum_ext h.members _ (λ m. other_account (calendar_of h) (amount x) log m hour +ℤ member_total (calendar_of h) (amount x) m hour ls)
      (λ m _. other_entered (calendar_of h) (amount x) h.members log ls m hour)
      ∙ sum_add h.members (λ m. other_account (calendar_of h) (amount x) log m hour) (λ m. member_total (calendar_of h) (amount x) m hour ls)
      ∙ rw (a.zero x hour d, members_total (calendar_of h) (amount x) h.members ls hour f.fits, f.balanced x hour d);
  empty = λ x c m l b t. rw (a.empty x c m l b t, row_untouched (calendar_of h) (amount x) h.members K ls c m f.clear t);
}
