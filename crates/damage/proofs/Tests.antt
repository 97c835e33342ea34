-- Tests, as the code makes them and as the rules say them. Assumes nothing.
use Rattle.std.proofs.Common.{◌≡◌, Bool, true, ◌&&◌, [], ◌∷◌}
use mathlib.Core.Bool.{and_assoc}
use Rattle.arith.specs.Lists.{all_of}
use Rattle.arith.proofs.Tests.{and_true}

-- A row of tests, joined by & in turn.
pub all_three : (a b c : Bool) → a && b && c ≡ all_of (a ∷ b ∷ c ∷ [])
unfolding all_of
all_three a b c = simp (and_assoc, and_true)

-- The head's nine tests, of which the first three are known to pass.
pub all_nine : (a b c d e f g h i : Bool) → a ≡ true → b ≡ true → c ≡ true → d && (e && f && g && h) && i ≡ all_of (a ∷ b ∷ c ∷ d ∷ e ∷ f ∷ g ∷ h ∷ i ∷ [])
unfolding all_of
all_nine a b c d e f g h i x y z = rw (x, y, z) (simp (and_assoc, and_true))
