-- Writers one after another. Assumes nothing.
use Prim.Native.Nat.{ℕ, ◌+◌, ◌%◌, ◌^◌, ◌≤◌, ◌<◌}
use mathlib.Core.List.{List, [], ◌++◌}
use mathlib.Core.Path.{◌≡◌}
use native.Mathlib.Omega.{arith}
use lib.ListN.{length}
use lib.Dec.{eqb, leb}
use Rattle.arith.proofs.Tests.{true_or}
use Rattle.rules.specs.ContractTerms.{term_of}
use Rattle.rules.specs.Text.{decimal}
use Rattle.text.specs.Wrote.{Wrote}
use Rattle.text.proofs.Writing.{then, wrote_none}
use Rattle.text.proofs.Decimals.{decimal_20}
use Rattle.listing_numbers.specs.Short.{Short}

pub next : {j k a b c : ℕ} {xs ys l m n : List ℕ} → Short j a xs l m b → Short k b ys m n c → a + j ≤ length l → Short (j + k) a (xs ++ ys) l n c
next p q h = record { wrote = then p.wrote q.wrote (omega (arith, p.wrote.after, p.short)); short = omega (arith, p.short, q.short) }

-- The same text in at least as much room.
pub within_room : {j a r : ℕ} {xs l m : List ℕ} (k : ℕ) (ys : List ℕ) → Short j a xs l m r → xs ≡ ys → j ≤ k → Short k a ys l m r
within_room k ys p e h = record { wrote = rw e at p.wrote; short = omega (arith, p.short) }

pub nothing : (a : ℕ) (l : List ℕ) → Short 0 a [] l l a
nothing a l = record { wrote = wrote_none a l; short = omega arith }

-- What was written is as long as it is.
pub exactly : {a r : ℕ} {l m : List ℕ} (k : ℕ) (xs : List ℕ) → Wrote a xs l m r → length xs ≡ k → Short k a xs l m r
exactly k xs w e = record { wrote = w; short = omega (arith, w.after) }

pub number : {a r : ℕ} {xs l m : List ℕ} → Wrote a xs l m r × (r ≤ a + 21) → Short 21 a xs l m r
number w = record { wrote = w.0; short = w.1 }

pub digits : {a r : ℕ} {l m : List ℕ} (n : ℕ) → n < 2 ^ 64 → Wrote a (decimal n) l m r → Short 20 a (decimal n) l m r
digits n f w = record { wrote = w; short = omega (arith, w.after, decimal_20 n f) }

pub decimal_room : (n place room : ℕ) → n < 2 ^ 64 → place + 20 ≤ room → place + length (decimal n) ≤ room
decimal_room n place room f h = omega (arith, decimal_20 n f)

pub term_small : (c : ℕ) → (term_of c).index ≤ c
unfolding term_of
term_small c =
    true_or (eqb (c % 17) 0) (λ e. rw e (omega arith))
    (λ e. rw e (true_or (leb (c % 17) 4) (λ g. rw g (omega arith)) (λ g. rw g (omega arith))))
