-- A word and its length.
use Rattle.std.specs.Prelude.{ℕ, ◌≤◌, List, ◌≡◌, length}

pub record IsWord (text word : List ℕ) : Type 0 where
  pub spells : word ≡ text
  pub fits : length word ≤ 24
