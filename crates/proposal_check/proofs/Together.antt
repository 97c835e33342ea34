-- What is asked of a proposal's legs together, as the code tries it. Assumes nothing.
use mathlib.Core.Path.{◌≡◌, refl, sym, ◌∙◌}
use mathlib.Core.Bool.{Bool, true, false, not, cond, ◌&&◌, ◌||◌}
use mathlib.Core.List.{List, [], ◌∷◌}
use Prim.Native.Nat.{ℕ, ◌+◌, ◌*◌, ◌<◌}
use native.Mathlib.Nat.{zero-add}
use lib.Dec.{eqb}
use borrow.Author.Tests.{eq-eqb, eqb-true, not-false}
use Rattle.arith.specs.Lists.{every, any, kept, total}
use Rattle.arith.proofs.Tests.{true_or, or_left, or_right}
use Rattle.arith.proofs.Scans.{every_both}
use Rattle.rules.specs.declared.order.Order.{Order}
use Rattle.rules.specs.declared.order.Side.{Side}
use Rattle.rules.specs.Ranges.{months_in_span}
use Rattle.rules.specs.Days.{Calendar, first_month, month_start}
use Rattle.rules.specs.OtherForms.{holds_month}
use Rattle.rules.proofs.HourLaws.{holds_hour_lem, first_hour}
use Rattle.rules.specs.Sides.{same_side}
use Rattle.rules.specs.Matching.{precedes}
use Rattle.rules.specs.Synthetic.{Named, two_occur, in_hour, in_full, priority_kept}

-- ---- two different ones occur exactly if one differs from the first
all_same : (f : Named → ℕ) (v : ℕ) (ns : List Named) → any (λ x. not (eqb (f x) v)) ns ≡ false → two_occur f ns ≡ false
unfolding any two_occur
all_same f v [] e = refl
all_same f v (n ∷ ns) e =
    let here = eqb-true (f n) v (not-false _ (or_left (not (eqb (f n) v)) (any (λ x. not (eqb (f x) v)) ns) e)) in
    let rest = or_right (not (eqb (f n) v)) (any (λ x. not (eqb (f x) v)) ns) e in
    rw (here, rest, all_same f v ns rest)

pub two_first : (f : Named → ℕ) (n : Named) (ns : List Named) → two_occur f (n ∷ ns) ≡ any (λ x. not (eqb (f x) (f n))) (n ∷ ns)
unfolding any two_occur
two_first f n ns =
    rw (eq-eqb (f n) (f n) refl)
    (true_or (any (λ x. not (eqb (f x) (f n))) ns) (λ e. rw e) (λ e. rw (e, all_same f (f n) ns e)))

-- ---- a month's hours lie in the same contracts
total_kept : {A : Type 0} (f : A → ℕ) (p : A → Bool) (l : List A) → total f (kept p l) ≡ total (λ x. cond (p x) (f x) 0) l
unfolding total kept
total_kept f p [] = refl
total_kept f p (x ∷ l) = true_or (p x) (λ e. rw (e, total_kept f p l)) (λ e. rw (e, total_kept f p l) (sym (zero-add _)))

pub hour_month : (k : Calendar) (f : Named → ℕ) (s : Side) (i : ℕ) (ns : List Named) → i < months_in_span
    → in_hour k f s (24 * month_start (first_month k + i)) ns ≡ total (λ n. cond (same_side n.order.side s && holds_month n.order.contract i) (f n) 0) ns
unfolding in_hour
hour_month k f s i ns l =
    simp (holds_hour_lem k i (24 * month_start (first_month k + i)) (first_hour k i l))
    (total_kept f (λ n. same_side n.order.side s && holds_month n.order.contract i) ns)

-- ---- priority, order by order
every_true : {A : Type 0} (l : List A) → every (λ _. true) l ≡ true
unfolding every
every_true [] = refl
every_true (x ∷ l) = every_true l

every_swap : {A B : Type 0} (r : A → B → Bool) (l : List A) (m : List B) → every (λ a. every (r a) m) l ≡ every (λ b. every (λ a. r a b) l) m
unfolding every
every_swap r [] m = sym (every_true m)
every_swap r (a ∷ l) m = rw (every_swap r l m) (sym (every_both (r a) (λ b. every (λ a. r a b) l) m))

none_or : {A : Type 0} (b : A → Bool) (f : Bool) (l : List A) → every (λ a. not (b a) || f) l ≡ not (any b l) || f
unfolding every any
none_or b f [] = refl
none_or b f (x ∷ l) = rw (none_or b f l) (go (b x) (any b l) f)
  where
    go : (p q f : Bool) → (not p || f) && (not q || f) ≡ not (p || q) || f
    go true q true = cases q
      where
        cases : (q : Bool) → not q || true ≡ true
        cases true = refl
        cases false = refl
    go true q false = refl
    go false q f = refl

-- Of the contract and side of the leg's order, with better priority.
abbrev pub before : Order → Named → Bool
before o n = eqb o.contract n.order.contract && (same_side o.side n.order.side && precedes o n.order)

pub priority_orders : (os : List Order) (ns : List Named) → every (priority_kept os ns) ns ≡ every (λ o. not (any (before o) ns) || in_full ns o) os
unfolding priority_kept
priority_orders os ns =
    every_swap (λ n o. not (before o n) || in_full ns o) ns os
    ∙ simp (none_or)
