-- A word as it is spelled out, and written. Assumes nothing.
use Prim.Native.Nat.{ℕ, ◌≤◌}
use mathlib.Core.List.{List}
use native.Mathlib.Omega.{arith}
use Rattle.listing_numbers.specs.Short.{Short}
use Rattle.listing_numbers.proofs.Writers.{within_room}
use Rattle.listing_words.specs.Word.{IsWord}

pub worded : {a r : ℕ} {l m text word : List ℕ} → IsWord text word → Short 24 a word l m r → Short 24 a text l m r
worded {text = text} i p = within_room 24 text p i.spells (omega arith)
