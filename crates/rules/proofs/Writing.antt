-- What an accepted write tells: the causes did not hold, and the bytes were written. Assumes nothing.
use Prim.Native.Nat.{ℕ}
use mathlib.Core.Bool.{Bool, true, false, not}
use mathlib.Core.List.{List, [], ◌∷◌}
use mathlib.Core.Path.{◌≡◌, refl, ap}
use native.Mathlib.Omega.{arith}
use Rattle.std.specs.Prelude.{Ok, Err}
use Rattle.rules.specs.declared.refusal.Refusal.TheVariants.{TableUnsound}
use Rattle.rules.specs.Answers.{decide}
use Rattle.rules.specs.declared.refusal.Refusal.{Refusal}

module _ (no : Refusal) (k n : ℕ) (out after whole : List ℕ) where
  pub written : (b c : Bool) → record { answer = Ok k; after = after } ≡ decide ((not b, no) ∷ (c, TableUnsound) ∷ []) out (record { answer = Ok n; after = whole })
      → (b ≡ true) × (k ≡ n) × (after ≡ whole)
  written false c w = let x : Ok k ≡ Err no = ap (λ o. o.answer) w in absurd (let z : ◌≡◌ {A = ℕ} 0 1 = cc in omega arith)
  written true true w = let x : Ok k ≡ Err TableUnsound = ap (λ o. o.answer) w in absurd (let z : ◌≡◌ {A = ℕ} 0 1 = cc in omega arith)
  written true false w = let x : Ok k ≡ Ok n = ap (λ o. o.answer) w in (refl, cc, ap (λ o. o.after) w)
