-- What a writer of a bounded text promises.
use Rattle.std.specs.Prelude.{ℕ, ◌+◌, ◌≤◌, List}
use Rattle.text.specs.Wrote.{Wrote}

-- It wrote the text, in at most so many places.
pub record Short (most place : ℕ) (text entry exit : List ℕ) (answer : ℕ) : Type 0 where
  pub wrote : Wrote place text entry exit answer
  pub short : answer ≤ place + most
