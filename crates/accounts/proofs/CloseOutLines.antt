-- The lines of a close-out: they fit the ledger, are of one contract at its GGF, and sum to nothing in every hour. Assumes nothing.
use Prim.Native.Nat.{ℕ, zero, suc, ◌+◌, ◌*◌, ◌-◌, ◌≤◌, ◌<◌, min}
use mathlib.Core.Path.{◌≡◌, refl, sym, ap, ap₂, ◌∙◌}
use mathlib.Core.Bool.{Bool, true, false, cond, ◌&&◌}
use mathlib.Core.List.{List, [], ◌∷◌, ◌++◌, map, zip_with}
use native.Mathlib.Omega.{arith}
use native.Mathlib.Nat.{zero-add}
use lib.Dec.{eqb, leb, ltb}
use lib.ListN.{length, get_or, length-map, length-append}
use lib.IntN.{ℤ, pos, negsuc, nat_abs, neg_ℤ, ◌+ℤ◌, ◌-ℤ◌, +ℤ_idl, +ℤ_idr, +ℤ_invr, +ℤ_invl, neg_ℤ-+ℤ}
use borrow.Author.Tests.{lt-ltb, le-ltb}
use Rattle.arith.specs.Lists.{total, from, All}
use Rattle.arith.proofs.Overs.{zip_length}
use Rattle.arith.proofs.Sums.{group}
use Rattle.arith.proofs.Tests.{by_bool, by_eqb, le_or_lt}
use Rattle.arith.proofs.Alls.{all_append}
use Rattle.rules.specs.Ranges.{contract_count}
use Rattle.rules.specs.declared.event.CloseOutTerms.{CloseOutTerms}
use Rattle.rules.specs.Days.{Calendar}
use Rattle.rules.specs.Ledger.{Tables, Line, members, defaulted, ggf, lots_at}
use Rattle.rules.specs.Accounts.{Column, amount}
use Rattle.rules.specs.Default.{by_member, sum_of, defaulted_longs, defaulted_shorts, given_up, less, change_lines, smaller_total, netted_longs, netted_shorts, netting_changes, longs_remaining}
use Rattle.rules.specs.Default.{shorts_remaining, lots_remaining, others_lots, open_weight, weights, taken, defaulted_changes, taker_changes, close_out_lines}
use Rattle.accounts.proofs.Lines.{Fits, hour_total}
use Rattle.accounts.proofs.OnePrice.{net_lots, net_append, balanced_at_price}
use Rattle.accounts.proofs.DealtOut.{dealt_length, dealt_none, all_dealt}
use Rattle.arith.proofs.Appends.{from_length}
use Rattle.rules.proofs.Netting.{given_length, given_sum}

-- ---- the lines of a list of changes
-- the changes added up
unfoldable net_of : List ℤ → ℤ
net_of [] = pos 0
net_of (z ∷ zs) = z +ℤ net_of zs

pub no_change : (z : ℤ) → nat_abs z ≡ 0 → z ≡ pos 0
no_change (pos n) e = ap pos e
no_change (negsuc n) e = absurd (omega arith)

module _ (c p : ℕ) where
  abbrev change : ℕ → ℤ → Line
  change m z = record { member = m; contract = c; lots = z; price = p }

  -- only changes of nothing have no line
  changes_net : (m : ℕ) (zs : List ℤ) → net_lots (change_lines c p m zs) ≡ net_of zs
  unfolding change_lines net_lots net_of
  changes_net m [] = refl
  changes_net m (z ∷ zs) =
      let rest = change_lines c p (suc m) zs in
      by_eqb (λ b. net_lots (cond b rest (change m z ∷ rest)) ≡ z +ℤ net_of zs) (nat_abs z) 0
      (λ e. changes_net (suc m) zs ∙ sym (ap (λ y. y +ℤ net_of zs) (no_change z e) ∙ +ℤ_idl (net_of zs)))
      (λ n. ap (λ y. z +ℤ y) (changes_net (suc m) zs))

  changes_few : (m : ℕ) (zs : List ℤ) → length (change_lines c p m zs) ≤ length zs
  unfolding change_lines
  changes_few m [] = omega arith
  changes_few m (z ∷ zs) =
      let rest = change_lines c p (suc m) zs in
      by_bool (λ b. length (cond b rest (change m z ∷ rest)) ≤ suc (length zs)) (eqb (nat_abs z) 0)
      (λ e. omega (arith, changes_few (suc m) zs)) (λ e. omega (arith, changes_few (suc m) zs))

  -- what holds of any change but of nothing, of a member below a + n, holds of the lines
  changes_all : (P : Line → Type 0) (a n : ℕ) (zs : List ℤ) → length zs ≡ n → ((m : ℕ) (z : ℤ) → m < a + n → 1 ≤ nat_abs z → P (change m z)) → All P (change_lines c p a zs)
  unfolding change_lines
  changes_all P a n [] e f = tt
  changes_all P a zero (z ∷ zs) e f = absurd (omega arith)
  changes_all P a (suc n) (z ∷ zs) e f =
      let rest = change_lines c p (suc a) zs in
      let r = changes_all P (suc a) n zs (omega arith) (λ m y h k. f m y (omega arith) k) in
      by_eqb (λ b. All P (cond b rest (change a z ∷ rest))) (nat_abs z) 0 (λ _. r) (λ k. (f a z (omega arith) (omega (arith, k)), r))

  -- the lines of three lists of changes
  module _ (xs ys zs : List ℤ) where
    abbrev steps : List Line
    steps = change_lines c p 0 xs ++ (change_lines c p 0 ys ++ change_lines c p 0 zs)

    steps_net : net_lots steps ≡ net_of xs +ℤ (net_of ys +ℤ net_of zs)
    steps_net = simp (net_append, changes_net)

    steps_few : length steps ≤ length xs + (length ys + length zs)
    steps_few = simp length-append (omega (arith, changes_few 0 xs, changes_few 0 ys, changes_few 0 zs))

    steps_all : (P : Line → Type 0) (n : ℕ) → length xs ≡ n → length ys ≡ n → length zs ≡ n → ((m : ℕ) (z : ℤ) → m < n → 1 ≤ nat_abs z → P (change m z)) → All P steps
    steps_all P n x y z f =
        let lines : (zs : List ℤ) → length zs ≡ n → All P (change_lines c p 0 zs) = λ zs e. changes_all P 0 n zs e (λ m z h k. f m z (omega arith) k) in
        all_append P (change_lines c p 0 xs) (change_lines c p 0 ys ++ change_lines c p 0 zs) (lines xs x) (all_append P (change_lines c p 0 ys) (change_lines c p 0 zs) (lines ys y) (lines zs z))

-- ---- sums of changes
pub regroup : (a b c d : ℤ) → (a -ℤ b) +ℤ (c -ℤ d) ≡ (a +ℤ c) -ℤ (b +ℤ d)
regroup a b c d = simp group

-- lots that come back less lots given up
back_less_given : (ss ls : List ℕ) → length ss ≡ length ls → net_of (zip_with (λ s l. pos s -ℤ pos l) ss ls) ≡ pos (sum_of ss) -ℤ pos (sum_of ls)
unfolding net_of sum_of total zip_with
back_less_given [] [] e = refl
back_less_given [] (l ∷ ls) e = absurd (omega arith)
back_less_given (s ∷ ss) [] e = absurd (omega arith)
back_less_given (s ∷ ss) (l ∷ ls) e = ap (λ z. (pos s -ℤ pos l) +ℤ z) (back_less_given ss ls (omega arith)) ∙ regroup (pos s) (pos l) (pos (sum_of ss)) (pos (sum_of ls))

-- lots taken by all, on one side
abbrev signed : Bool → ℕ → ℤ
signed b q = cond b (pos q) (neg_ℤ (pos q))

signed_add : (b : Bool) (m n : ℕ) → signed b m +ℤ signed b n ≡ signed b (m + n)
signed_add true m n = refl
signed_add false m n = sym (neg_ℤ-+ℤ (pos m) (pos n))

taken_net : (b : Bool) (qs : List ℕ) → net_of (map (signed b) qs) ≡ signed b (sum_of qs)
unfolding net_of sum_of total
taken_net true [] = refl
taken_net false [] = refl
taken_net b (q ∷ qs) = ap (λ z. signed b q +ℤ z) (taken_net b qs) ∙ signed_add b q (sum_of qs)

remaining_sum : (q : ℕ) (xs : List ℕ) → sum_of (less xs (given_up q xs)) + sum_of (given_up q xs) ≡ sum_of xs
unfolding given_up sum_of total zip_with
remaining_sum q [] = omega arith
remaining_sum q (x ∷ xs) = omega (arith, remaining_sum (q - min q x) xs)

member_length : {A : Type 0} (t : Tables) (f : ℕ → A) → length (by_member t f) ≡ members t
member_length t f = length-map (from 0 (members t)) f ∙ from_length 0 (members t)

-- where the number is 0, the list has 0
none_at : (f : ℕ → ℕ) (a n i : ℕ) → f (a + i) ≡ 0 → get_or (map f (from a n)) i 0 ≡ 0
unfolding from
none_at f a zero i e = refl
none_at f a (suc n) zero e = let z : a + 0 ≡ a = omega arith in rw z at e
none_at f a (suc n) (suc i) e = none_at f (suc a) n i (let z : suc a + i ≡ a + suc i = omega arith in rw z e)

-- ---- the two steps
-- lots that remain on one side, with the takers' on the other
remainder_net : (l s : ℕ) → (0 < l → s ≡ 0) → (pos s -ℤ pos l) +ℤ signed (ltb 0 l) (l + s) ≡ pos 0
remainder_net l s f =
    le_or_lt 1 l
    (λ h. let e : l + s ≡ l = omega (arith, f h) in rw (lt-ltb 0 l h, e, f h) (simp (+ℤ_idl, +ℤ_invl)))
    (λ h. let e : l + s ≡ s = omega arith in let z : l ≡ 0 = omega arith in rw (le-ltb 0 l (omega arith), e, z) (ap (λ y. y -ℤ pos s) (+ℤ_idr (pos s)) ∙ +ℤ_invr (pos s)))

module _ (t : Tables) (c : ℕ) where
  pub longs_length : length (defaulted_longs t c) ≡ members t
  unfolding defaulted_longs
  longs_length = member_length t _

  pub shorts_length : length (defaulted_shorts t c) ≡ members t
  unfolding defaulted_shorts
  shorts_length = member_length t _

  pub netted_length : (xs : List ℕ) → length xs ≡ members t → length (given_up (smaller_total t c) xs) ≡ members t
  netted_length xs e = given_length (smaller_total t c) xs ∙ e

  pub after_netting_length : (xs : List ℕ) → length xs ≡ members t → length (less xs (given_up (smaller_total t c) xs)) ≡ members t
  after_netting_length xs e = zip_length _ xs _ (e ∙ sym (netted_length xs e)) ∙ e

  netting_length : length (netting_changes t c) ≡ members t
  unfolding netting_changes netted_longs netted_shorts
  netting_length =
      let shorts = netted_length _ shorts_length in
      zip_length _ (netted_shorts t c) (netted_longs t c) (shorts ∙ sym (netted_length _ longs_length)) ∙ shorts

  -- step 1: as many lots come back as are given up
  netting_net : net_of (netting_changes t c) ≡ pos 0
  unfolding netting_changes netted_longs netted_shorts smaller_total
  netting_net =
      let q = smaller_total t c in
      let s : sum_of (netted_shorts t c) ≡ q = omega (arith, given_sum q (defaulted_shorts t c)) in
      let l : sum_of (netted_longs t c) ≡ q = omega (arith, given_sum q (defaulted_longs t c)) in
      back_less_given (netted_shorts t c) (netted_longs t c) (netted_length _ shorts_length ∙ sym (netted_length _ longs_length))
      ∙ ap₂ (λ x y. pos x -ℤ pos y) s l
      ∙ +ℤ_invr (pos q)

  -- step 2: what remains is on one side
  one_side : 0 < sum_of (longs_remaining t c) → sum_of (shorts_remaining t c) ≡ 0
  unfolding longs_remaining shorts_remaining netted_longs netted_shorts smaller_total
  one_side h =
      let q = smaller_total t c in
      let ls = defaulted_longs t c in
      let ss = defaulted_shorts t c in
      omega (arith, given_sum q ls, given_sum q ss, remaining_sum q ls, remaining_sum q ss)

  remaining_length : length (defaulted_changes t c) ≡ members t
  unfolding defaulted_changes longs_remaining shorts_remaining netted_longs netted_shorts
  remaining_length =
      let shorts = after_netting_length _ shorts_length in
      zip_length _ (shorts_remaining t c) (longs_remaining t c) (shorts ∙ sym (after_netting_length _ longs_length)) ∙ shorts

  remaining_net : net_of (defaulted_changes t c) ≡ pos (sum_of (shorts_remaining t c)) -ℤ pos (sum_of (longs_remaining t c))
  unfolding defaulted_changes longs_remaining shorts_remaining netted_longs netted_shorts
  remaining_net = back_less_given (shorts_remaining t c) (longs_remaining t c) (after_netting_length _ shorts_length ∙ sym (after_netting_length _ longs_length))

-- ---- the laws
module _ (t : Tables) (e : CloseOutTerms) where
  -- either way, the weights are of the members that are not defaulted
  by_weights : (P : List ℕ → Type 0) → ((f : ℕ → ℕ) → P (by_member t (λ m. cond (defaulted t m) 0 (f m)))) → P (weights t e)
  unfolding weights others_lots
  by_weights P f =
      let c = e.contract in
      by_bool (λ b. P (cond b (by_member t (λ m. cond (defaulted t m) 0 (open_weight t m))) (others_lots t c)))
      (leb (e.ratio * sum_of (others_lots t c)) (1000 * lots_remaining t c)) (λ _. f (open_weight t)) (λ _. f (λ m. nat_abs (lots_at t c m)))

  weights_length : length (weights t e) ≡ members t
  weights_length = by_weights (λ ws. length ws ≡ members t) (λ f. member_length t _)

  pub taken_length : length (taker_changes t e) ≡ members t
  unfolding taker_changes taken
  taken_length = length-map (taken t e) _ ∙ dealt_length (lots_remaining t e.contract) (weights t e) ∙ weights_length

  takers_net : (ltb 0 (lots_remaining t e.contract) && eqb (sum_of (weights t e)) 0) ≡ false → net_of (taker_changes t e) ≡ signed (ltb 0 (sum_of (longs_remaining t e.contract))) (lots_remaining t e.contract)
  unfolding taker_changes taken
  takers_net h =
      let b = ltb 0 (sum_of (longs_remaining t e.contract)) in
      taken_net b (taken t e) ∙ ap (signed b) (all_dealt (lots_remaining t e.contract) (weights t e) h)

  -- what holds of any member's line of some lots in the contract at its GGF holds of all lines
  pub close_out_all : (P : Line → Type 0) → ((m : ℕ) (z : ℤ) → m < members t → 1 ≤ nat_abs z → P (change e.contract (ggf t e.contract) m z)) → All P (close_out_lines t e)
  unfolding close_out_lines
  close_out_all P f = steps_all e.contract (ggf t e.contract) _ _ _ P (members t) (netting_length t e.contract) (remaining_length t e.contract) taken_length f

  -- each line names a contract and a member of the ledger
  pub close_out_fits : e.contract < contract_count → All (Fits (members t)) (close_out_lines t e)
  close_out_fits h = close_out_all (Fits (members t)) (λ m z l k. record { contract< = h; member< = l })

  -- all are of the contract, at its GGF
  pub close_out_contract : All (λ l. l.contract ≡ e.contract) (close_out_lines t e)
  close_out_contract = close_out_all (λ l. l.contract ≡ e.contract) (λ m z l k. refl)

  pub close_out_price : All (λ l. l.price ≡ ggf t e.contract) (close_out_lines t e)
  close_out_price = close_out_all (λ l. l.price ≡ ggf t e.contract) (λ m z l k. refl)

  -- at most one line a member for each of the three parts
  pub close_out_few : length (close_out_lines t e) ≤ 3 * members t
  unfolding close_out_lines
  close_out_few =
      let c = e.contract in
      omega (arith, steps_few c (ggf t c) (netting_changes t c) (defaulted_changes t c) (taker_changes t e), netting_length t c, remaining_length t c, taken_length)

  -- their lots sum to nothing, if the takers have any weight or nothing remains for them
  pub close_out_net : (ltb 0 (lots_remaining t e.contract) && eqb (sum_of (weights t e)) 0) ≡ false → net_lots (close_out_lines t e) ≡ pos 0
  unfolding close_out_lines lots_remaining
  close_out_net h =
      let c = e.contract in
      steps_net c (ggf t c) (netting_changes t c) (defaulted_changes t c) (taker_changes t e)
      ∙ ap₂ (λ x y. x +ℤ y) (netting_net t c) (ap₂ (λ x y. x +ℤ y) (remaining_net t c) (takers_net h) ∙ remainder_net (sum_of (longs_remaining t c)) (sum_of (shorts_remaining t c)) (one_side t c))

  -- a close-out's lots and value add up to nothing in every hour
  pub close_out_balanced : (ltb 0 (lots_remaining t e.contract) && eqb (sum_of (weights t e)) 0) ≡ false → (k : Calendar) (x : Column) (h : ℕ) → hour_total k (amount x) h (close_out_lines t e) ≡ pos 0
  close_out_balanced w k x h = balanced_at_price k x h e.contract (ggf t e.contract) (close_out_lines t e) close_out_contract close_out_price (close_out_net w)

  -- a defaulted member takes nothing
  pub defaulted_take_none : (m : ℕ) → defaulted t m ≡ true → get_or (taken t e) m 0 ≡ 0
  unfolding taken
  defaulted_take_none m d =
      dealt_none (lots_remaining t e.contract) (weights t e) m (by_weights (λ ws. get_or ws m 0 ≡ 0) (λ f. none_at _ 0 (members t) m (rw (zero-add m, d))))
