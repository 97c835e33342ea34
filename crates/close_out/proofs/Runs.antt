-- How many lots the lines of a close-out run, and what room they take. Assumes nothing.
use Prim.Native.Nat.{ℕ, zero, suc, ◌+◌, ◌-◌, ◌≤◌, ◌<◌, min}
use mathlib.Core.Path.{◌≡◌, refl, sym, ◌∙◌}
use mathlib.Core.Bool.{Bool, true, false, cond}
use mathlib.Core.List.{List, [], ◌∷◌, map, zip_with}
use native.Mathlib.Omega.{arith}
use native.Mathlib.Nat.{zero-add, add_assoc}
use lib.Dec.{ltb}
use lib.IntN.{ℤ, pos, neg_ℤ, nat_abs, ◌-ℤ◌, +ℤ_idl}
use lib.ListN.{length, get_or, replicate, length-append}
use borrow.Author.Tests.{ne_eqb}
use Rattle.arith.specs.Lists.{total}
use Rattle.arith.proofs.Tests.{same_or}
use Rattle.rules.specs.Default.{sum_of, given_up, less, change_lines, dealt_out, rounds}
use Rattle.rules.specs.Ledger.{Tables, members, line_run}
use Rattle.rules.specs.Ranges.{contract_count, most_price, least_lines}
use Rattle.rules.proofs.Netting.{sum_cons, sum_none, sum_zeros, given_sum, given_length, given_le}
use Rattle.dealing.proofs.Dealt.{all_dealt}
use Rattle.close_out.specs.Booking.{with_each, changes, taker_lines}
use Rattle.close_out.proofs.Changes.{minus_size, change_most, change_cons, each_append}
use Rattle.deal_lines.proofs.Takes.{Takes}
use Rattle.close_out.proofs.Takes.{takes_change, each_members}
use Rattle.arith.proofs.Sizes.{abs_neg}

-- ---- what remains
less_sum : (xs ys : List ℕ) → length ys ≡ length xs → ((i : ℕ) → get_or ys i 0 ≤ get_or xs i 0) → sum_of (less xs ys) + sum_of ys ≡ sum_of xs
unfolding zip_with
less_sum [] [] e f = omega (arith, sum_none)
less_sum [] (y ∷ ys) e f = absurd (omega arith)
less_sum (x ∷ xs) [] e f = absurd (omega arith)
less_sum (x ∷ xs) (y ∷ ys) e f = rw (sum_cons (x - y) (less xs ys), sum_cons x xs, sum_cons y ys) (omega (arith, f 0, less_sum xs ys (omega arith) (λ i. f (suc i))))

pub remaining_sum : (q : ℕ) (held : List ℕ) → sum_of (less held (given_up q held)) ≡ sum_of held - min q (sum_of held)
remaining_sum q held = omega (arith, less_sum held (given_up q held) (given_length q held) (given_le q held), given_sum q held)

-- ---- lots run
pub change_run : (c p m : ℕ) (zs : List ℤ) → line_run (change_lines c p m zs) ≡ total nat_abs zs
unfolding line_run total change_lines
change_run c p m [] = refl
change_run c p m (z ∷ zs) =
    same_or (nat_abs z) 0 (λ e. rw (e, change_run c p (suc m) zs) (omega arith)) (λ d. rw (ne_eqb (nat_abs z) 0 d, change_run c p (suc m) zs))

-- At each place one of the two is 0.
abbrev pub Apart : List ℕ → List ℕ → Type 0
Apart xs ys = (i : ℕ) → min (get_or xs i 0) (get_or ys i 0) ≡ 0

apart_size : (x y : ℕ) → min x y ≡ 0 → nat_abs (pos x -ℤ pos y) ≡ x + y
apart_size x zero h = refl
apart_size zero (suc y) h = rw (+ℤ_idl (neg_ℤ (pos (suc y)))) (omega arith)
apart_size (suc x) (suc y) h = absurd (omega arith)

pub apart_run : (xs ys : List ℕ) → length xs ≡ length ys → Apart xs ys → total nat_abs (changes xs ys) ≡ sum_of xs + sum_of ys
unfolding total zip_with
apart_run [] [] e a = omega (arith, sum_none)
apart_run [] (y ∷ ys) e a = absurd (omega arith)
apart_run (x ∷ xs) [] e a = absurd (omega arith)
apart_run (x ∷ xs) (y ∷ ys) e a =
    rw (sum_cons x xs, sum_cons y ys, apart_size x y (a 0), apart_run xs ys (omega arith) (λ i. a (suc i))) (omega arith)

pub most_run : (xs ys : List ℕ) → length xs ≡ length ys → total nat_abs (changes xs ys) ≤ sum_of xs + sum_of ys
unfolding total zip_with
most_run [] [] e = omega arith
most_run [] (y ∷ ys) e = absurd (omega arith)
most_run (x ∷ xs) [] e = absurd (omega arith)
most_run (x ∷ xs) (y ∷ ys) e = rw (sum_cons x xs, sum_cons y ys) (omega (arith, minus_size x y, most_run xs ys (omega arith)))

taken_run : (b : Bool) (xs : List ℕ) → total nat_abs (map (λ n. cond b (pos n) (neg_ℤ (pos n))) xs) ≡ sum_of xs
unfolding total
taken_run b [] = sym sum_none
taken_run true (x ∷ xs) = rw (sum_cons x xs, taken_run true xs)
taken_run false (x ∷ xs) = rw (sum_cons x xs, taken_run false xs, abs_neg (pos x))

none_dealt : (ws : List ℕ) → dealt_out 0 ws ≡ replicate (length ws) 0
unfolding dealt_out rounds
none_dealt ws = refl

pub takers_run : (c p long l : ℕ) (ws : List ℕ) → (0 < l → 0 < sum_of ws) → line_run (taker_lines c p long l ws) ≡ l
unfolding taker_lines
takers_run c p long l ws h =
    change_run c p 0 _ ∙ taken_run (ltb 0 long) (dealt_out l ws) ∙ same_or l 0 (λ e. rw (e, none_dealt ws) (sum_zeros (length ws))) (λ d. all_dealt l ws (h (omega arith)))

-- no lots, no lines
zero_lines : (c p m n : ℕ) (b : Bool) → change_lines c p m (map (λ k. cond b (pos k) (neg_ℤ (pos k))) (replicate n 0)) ≡ []
unfolding change_lines
zero_lines c p m zero b = refl
zero_lines c p m (suc n) true = zero_lines c p (suc m) n true
zero_lines c p m (suc n) false = zero_lines c p (suc m) n false

pub no_takers : (c p long : ℕ) (ws : List ℕ) → taker_lines c p long 0 ws ≡ []
unfolding taker_lines
no_takers c p long ws = rw (none_dealt ws) (zero_lines c p 0 (length ws) (ltb 0 long))

-- ---- room
pub change_length : (c p m : ℕ) (zs : List ℤ) → length (change_lines c p m zs) ≤ length zs
unfolding change_lines
change_length c p m [] = omega arith
change_length c p m (z ∷ zs) =
    rw (change_cons c p m z zs, length-append (change_lines c p m (z ∷ [])) (change_lines c p (suc m) zs)) (omega (arith, change_most c p m z, change_length c p (suc m) zs))

takes_none : (c p i m room : ℕ) (t : Tables) → Takes (0 + room) t → Takes room (with_each i (change_lines c p m []) t)
unfolding with_each change_lines
takes_none c p i m room t f = rw (zero-add room) at f

pub takes_lines : (c p : ℕ) → c < contract_count → p ≤ most_price → (zs : List ℤ) (room i m : ℕ) (t : Tables) → m + length zs ≤ members t → i + length zs ≤ least_lines
    → Takes (total nat_abs zs + room) t → Takes room (with_each i (change_lines c p m zs) t)
unfolding total
takes_lines c p hc hp [] room i m t a b f = takes_none c p i m room t f
takes_lines c p hc hp (z ∷ zs) room i m t a b f =
    let one = change_lines c p m (z ∷ []) in
    let rest = total nat_abs zs + room in
    let u = with_each i one t in
    let now : Takes rest u = takes_change rest i c p m z t (omega arith) (record { contract_below = hc; member_below = omega arith; most_price_holds = hp })
    (rw (add_assoc (nat_abs z) (total nat_abs zs) room) at f) in
    rw (change_cons c p m z zs, each_append i one (change_lines c p (suc m) zs) t)
    (takes_lines c p hc hp zs room (i + length one) (suc m) u (rw (each_members i one t) (omega arith)) (omega (arith, change_most c p m z)) now)
