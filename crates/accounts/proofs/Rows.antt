-- A column of rows, contract c and member m at c * 32 + m: what posting lines does to each row.
use mathlib.Core.Path.{◌≡◌, refl, ◌∙◌}
use mathlib.Core.List.{List, [], ◌∷◌}
use Prim.Native.Nat.{ℕ, ◌+◌, ◌*◌, ◌≤◌, ◌<◌}
use native.Mathlib.Omega.{arith}
use lib.Dec.{eqb}
use lib.ListN.{length, get_or, set, length-set}
use lib.Seq.{get_or-set_same, get_or-set_other}
use lib.IntN.{ℤ, pos, ◌+ℤ◌, +ℤ_assoc}
use Rattle.arith.specs.Lists.{All}
use Rattle.arith.specs.Ints.{when}
use Rattle.arith.proofs.Tests.{by_eqb}
use Rattle.arith.proofs.Sums.{sorted}
use Rattle.rules.specs.Ledger.{row_width, rows_length}
use Rattle.rules.specs.Ranges.{contract_count}
use Rattle.rules.specs.Ledger.{Line, posted}
use Rattle.accounts.proofs.Lines.{Fits, row_total}

abbrev row_of : List ℤ → ℕ → ℕ → ℤ
row_of l c m = get_or l (c * row_width + m) (pos 0)

-- ---- posting
pub posted_length : (amount : Line → ℤ) (ls : List Line) (l : List ℤ) → length (posted amount ls l) ≡ length l
unfolding posted
posted_length amount [] l = refl
posted_length amount (x ∷ ls) l = posted_length amount ls _ ∙ length-set l _ _

-- w more at contract c and member m
more_row : (l : List ℤ) (c m d k : ℕ) (w : ℤ) → rows_length ≤ length l → c < contract_count → m < 32 → k < 32
    → row_of (set l (c * row_width + m) (row_of l c m +ℤ w)) d k ≡ row_of l d k +ℤ when (eqb c d) (when (eqb m k) w)
more_row l c m d k w s hc hm hk =
    by_eqb (λ b. row_of (set l (c * row_width + m) (row_of l c m +ℤ w)) d k ≡ row_of l d k +ℤ when b (when (eqb m k) w)) c d
    (λ e. by_eqb (λ b. row_of (set l (c * row_width + m) (row_of l c m +ℤ w)) d k ≡ row_of l d k +ℤ when b w) m k
    (λ f. rw (← e, ← f) (get_or-set_same l (c * row_width + m) (row_of l c m +ℤ w) (pos 0) (omega arith)))
    (λ f. get_or-set_other l (c * row_width + m) (d * row_width + k) _ (pos 0) (λ q. f (omega arith)) ∙ simp sorted))
    (λ e. get_or-set_other l (c * row_width + m) (d * row_width + k) _ (pos 0) (λ q. e (omega arith)) ∙ simp sorted)

-- Each row grows by what the lines add to it.
pub posted_row : (n : ℕ) (amount : Line → ℤ) (ls : List Line) (l : List ℤ) (c m : ℕ) → rows_length ≤ length l → All (Fits n) ls → n ≤ 32 → m < 32
    → get_or (posted amount ls l) (c * row_width + m) (pos 0) ≡ get_or l (c * row_width + m) (pos 0) +ℤ row_total amount c m ls
unfolding posted row_total
posted_row n amount [] l c m s fit hn hm = simp sorted
posted_row n amount (x ∷ ls) l c m s fit hn hm =
    posted_row n amount ls _ c m (rw length-set s) fit.1 hn hm
    ∙ rw (more_row l x.contract x.member c m (amount x) s fit.0.contract< (omega (arith, fit.0.member<)) hm) (simp +ℤ_assoc)
