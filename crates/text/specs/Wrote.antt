-- What a writer of text promises.
use Rattle.std.specs.Prelude.{ℕ, ◌+◌, List, ◌≡◌, length}
use Rattle.arith.specs.Lists.{over}

-- The text stands over the bytes at entry from a place on, and the answer is the place after it.
pub record Wrote (place : ℕ) (text entry exit : List ℕ) (answer : ℕ) : Type 0 where
  pub after : answer ≡ place + length text
  pub bytes : exit ≡ over place text entry
