-- The line of a member whose lots change, and lines booked one after the other. Assumes nothing.
use Prim.Native.Nat.{ℕ, zero, suc, ◌+◌, ◌-◌, ◌≤◌, ◌<◌}
use mathlib.Core.Path.{◌≡◌, refl, ap, ◌∙◌}
use mathlib.Core.Bool.{cond}
use mathlib.Core.List.{List, [], ◌∷◌, ◌++◌, zip_with, append-nil, append_assoc}
use native.Mathlib.Omega.{arith}
use native.Mathlib.Nat.{add-zero, add-suc, suc-add}
use native.Mathlib.Numerals.{add-one}
use lib.Dec.{eqb}
use lib.IntN.{ℤ, pos, negsuc, neg_ℤ, nat_abs, ◌-ℤ◌}
use lib.ListN.{length, get_or, drop, length-append, drop_of_length-le}
use lib.Seq.{drop-cons}
use borrow.Author.Tests.{eq-eqb, ne_eqb, lt-ltb, le-ltb}
use Rattle.arith.proofs.Sizes.{abs_plus, abs_neg}
use Rattle.arith.proofs.Columns.{total_next}
use Rattle.arith.proofs.Tests.{by_bool, same_or}
use Rattle.rules.specs.declared.order.Side.TheVariants.{Buy, Sell}
use Rattle.rules.specs.Default.{sum_of, change_lines}
use Rattle.rules.specs.Ledger.{Tables, Line, booked}
use Rattle.rules.specs.Sides.{signed}
use Rattle.rules.proofs.LinesRun.{booked_none}
use Rattle.deal_lines.proofs.Booked.{booked_more}
use Rattle.deal_lines.specs.Lines.{with_line}
use Rattle.close_out.specs.Booking.{with_each, changes}

-- ---- gains less losses
minus_same : (a b : ℕ) → a ≡ b → pos a -ℤ pos b ≡ pos 0
minus_same a zero e = ap pos (omega arith)
minus_same a (suc b) e = rw (le-ltb a (suc b) (omega arith)) (ap pos (omega arith))

minus_more : (a b : ℕ) → b < a → pos a -ℤ pos b ≡ pos (a - b)
minus_more a zero h = ap pos (omega arith)
minus_more a (suc b) h = rw (le-ltb a (suc b) (omega arith))

minus_less : (a b : ℕ) → a < b → pos a -ℤ pos b ≡ neg_ℤ (pos (b - a))
minus_less a zero h = absurd (omega arith)
minus_less a (suc b) h = let e : suc b - a ≡ suc (suc b - suc a) = omega arith in rw (lt-ltb a (suc b) h, e)

pub minus_size : (a b : ℕ) → nat_abs (pos a -ℤ pos b) ≤ a + b
minus_size a zero = omega arith
minus_size a (suc b) = abs_plus (pos a) (negsuc b)

-- ---- one member's line
module _ (c p m : ℕ) where
  abbrev line : ℤ → Line
  line z = record { member = m; contract = c; lots = z; price = p }

  pub change_none : (z : ℤ) → nat_abs z ≡ 0 → change_lines c p m (z ∷ []) ≡ []
  unfolding change_lines
  change_none z h = rw (eq-eqb (nat_abs z) 0 h)

  pub change_one : (z : ℤ) → (nat_abs z ≡ 0 → ⊥) → change_lines c p m (z ∷ []) ≡ line z ∷ []
  unfolding change_lines
  change_one z h = rw (ne_eqb (nat_abs z) 0 h)

  module _ (gain loss : ℕ) where
    pub no_change : gain ≡ loss → change_lines c p m ((pos gain -ℤ pos loss) ∷ []) ≡ []
    no_change e = change_none (pos gain -ℤ pos loss) (rw (minus_same gain loss e))

    pub more_bought : loss < gain → change_lines c p m ((pos gain -ℤ pos loss) ∷ []) ≡ line (signed Buy (gain - loss)) ∷ []
    more_bought h = rw (minus_more gain loss h) (change_one (pos (gain - loss)) (λ e. omega arith))

    pub more_sold : gain < loss → change_lines c p m ((pos gain -ℤ pos loss) ∷ []) ≡ line (signed Sell (loss - gain)) ∷ []
    more_sold h = rw (minus_less gain loss h) (change_one (neg_ℤ (pos (loss - gain))) (λ e. omega (arith, abs_neg (pos (loss - gain)))))

  pub change_cons : (z : ℤ) (zs : List ℤ) → change_lines c p m (z ∷ zs) ≡ change_lines c p m (z ∷ []) ++ change_lines c p (suc m) zs
  unfolding change_lines
  change_cons z zs =
      by_bool (λ b. cond b (change_lines c p (suc m) zs) (line z ∷ change_lines c p (suc m) zs) ≡ cond b [] (line z ∷ []) ++ change_lines c p (suc m) zs) (eqb (nat_abs z) 0)
      (λ _. refl) (λ _. refl)

-- ---- several lines
pub each_none : (i : ℕ) (t : Tables) → with_each i [] t ≡ t
unfolding with_each
each_none i t = refl

pub each_one : (i : ℕ) (l : Line) (t : Tables) → with_each i (l ∷ []) t ≡ with_line i l t
unfolding with_each
each_one i l t = refl

pub each_append : (i : ℕ) (ls ms : List Line) (t : Tables) → with_each i (ls ++ ms) t ≡ with_each (i + length ls) ms (with_each i ls t)
unfolding with_each
each_append i [] ms t = rw (add-zero i)
each_append i (l ∷ ls) ms t = rw (each_append (suc i) ls ms (with_line i l t), add-suc i (length ls), suc-add i (length ls))

-- All lines booked one after the other are what is booked.
booked_each : (ls ms : List Line) (t : Tables) → 6 < length t.head → with_each (length ls) ms (booked ls t).after ≡ (booked (ls ++ ms) t).after
unfolding with_each
booked_each ls [] t h = rw (append-nil ls)
booked_each ls (m ∷ ms) t h =
    rw (booked_more ls m (length ls) t refl h)
    (let e : length (ls ++ (m ∷ [])) ≡ suc (length ls) = rw (length-append ls (m ∷ [])) (omega arith) in
    rw e at (booked_each (ls ++ (m ∷ [])) ms t h) ∙ rw (append_assoc ls (m ∷ []) ms))

pub each_booked : (ls : List Line) (t : Tables) → 6 < length t.head → with_each 0 ls t ≡ (booked ls t).after
each_booked ls t h = rw (booked_none t) at (booked_each [] ls t h)

pub change_most : (c p m : ℕ) (z : ℤ) → length (change_lines c p m (z ∷ [])) ≤ 1
change_most c p m z = same_or (nat_abs z) 0 (λ e. rw (change_none c p m z e) (omega arith)) (λ d. rw (change_one c p m z d) (omega arith))

-- ---- columns of gains and losses, read from place m on
module _ (gains losses : List ℕ) (m : ℕ) (here : m < length gains) (there : m < length losses) where
  pub changes_next : changes (drop m gains) (drop m losses) ≡ (pos (get_or gains m 0) -ℤ pos (get_or losses m 0)) ∷ changes (drop (m + 1) gains) (drop (m + 1) losses)
  unfolding zip_with
  changes_next = rw (add-one, drop-cons gains m 0 here, drop-cons losses m 0 there)

  pub lines_next : (c p : ℕ) → change_lines c p m (changes (drop m gains) (drop m losses))
      ≡ change_lines c p m ((pos (get_or gains m 0) -ℤ pos (get_or losses m 0)) ∷ []) ++ change_lines c p (m + 1) (changes (drop (m + 1) gains) (drop (m + 1) losses))
  lines_next c p = ap (change_lines c p m) changes_next ∙ change_cons c p m _ _ ∙ rw (add-one m)

pub lines_end : (c p m : ℕ) (gains losses : List ℕ) → length gains ≤ m → change_lines c p m (changes (drop m gains) (drop m losses)) ≡ []
unfolding zip_with change_lines
lines_end c p m gains losses h = rw (drop_of_length-le gains h)

pub sum_next : (ns : List ℕ) (m : ℕ) → m < length ns → sum_of (drop m ns) ≡ get_or ns m 0 + sum_of (drop (m + 1) ns)
unfolding sum_of
sum_next ns m h = total_next ns m (λ n. n) 0 h
