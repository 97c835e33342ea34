-- Tests of a list as the rules and as the library say them. Assumes nothing.
use Rattle.std.proofs.Common.{◌≡◌, Bool, List, [], ◌∷◌, refl, ap, ◌&&◌}
use Rattle.std.specs.List.{list_all}
use Rattle.arith.specs.Lists.{every}

module _ {A : Type 0} (p : A → Bool) where
  pub every_lem : (l : List A) → list_all p l ≡ every p l
  unfolding every
  every_lem [] = refl
  every_lem (x ∷ l) = ap (λ b. p x && b) (every_lem l)
