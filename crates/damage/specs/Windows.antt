-- Rows tested column by column, against windows whose width is a power of two.
use Rattle.std.specs.Prelude.{◌≡◌, ℕ, ◌/◌, ◌^◌, ◌≤◌, Bool, List, ℤ, pos, slice_index_or}
use Rattle.arith.specs.Lists.{every_block}
use Rattle.rules.specs.Ranges.{contract_count}
use Rattle.rules.specs.Ledger.{row_width}

-- A member's place passes in the rows of every contract.
unfoldable pub every_column : (ℤ → Bool) → ℕ → List ℤ → Bool
every_column p member l = every_block row_width (λ rows. p (slice_index_or rows member (pos 0))) contract_count l

-- A window of 2 ^ k numbers, and half of them; sums with it do not wrap.
abbrev pub IsWidth : ℕ → ℕ → Type 0
IsWidth width k = (k ≤ 62) × (width ≡ 2 ^ k)

abbrev pub IsHalf : ℕ → ℕ → Type 0
IsHalf half k = (k ≤ 62) × (half ≡ 2 ^ k / 2)
