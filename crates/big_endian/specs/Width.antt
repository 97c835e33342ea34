-- How many bytes a number takes.
use Rattle.std.specs.Prelude.{ℕ}

-- One byte is the paper's u8, two its u16, four its u32.
pub data Width : ℕ → Type 0 where
  one : Width 1
  two : Width 2
  four : Width 4
