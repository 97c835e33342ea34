-- Surplus of head, prices and rows, and what is past the book, is left by all that records write. Assumes nothing.
use Prim.Native.Nat.{ℕ, zero, suc, ◌+◌, ◌*◌, ◌-◌, ◌%◌, ◌≤◌, ◌<◌}
use mathlib.Core.Path.{◌≡◌, refl, sym, ap, subst, ◌∙◌}
use mathlib.Core.List.{List, [], ◌∷◌, ◌++◌, zip_with}
use native.Mathlib.Omega.{arith}
use native.Mathlib.Nat.{suc-mul}
use lib.Dec.{eqb}
use lib.ListN.{length, get_or, set, take, drop, replicate, length-set, length-drop, length-replicate}
use lib.Seq.{get_or-set_other, get_or-append-add, get_or-drop, length-take-le}
use lib.IntN.{ℤ, pos, ◌+ℤ◌}
use borrow.Author.Tests.{ne_eqb}
use Rattle.arith.specs.Ints.{when}
use Rattle.arith.specs.Lists.{All, from, over, in_each_block}
use Rattle.arith.proofs.Overs.{over_length, over_outside, zip_length}
use Rattle.arith.proofs.Sums.{sorted}
use Rattle.arith.proofs.Tests.{by_eqb, le_or_lt, same_or}
use Rattle.rules.specs.Ranges.{contract_count, term_count, most_members}
use Rattle.rules.specs.Ledger.{Tables, Line, head_length, members_place, holiday_count_place, day_place, submits_from}
use Rattle.rules.specs.Ledger.{price_width, prices_length, ggf_place, day_lots_place, row_width, rows_length, rows_from}
use Rattle.rules.specs.Ledger.{posted, with_ggf}
use Rattle.rules.specs.CloseOfDay.{ggf_at_close, with_ggfs, without_deals, contract_rows, added_to, cascaded, all_cascaded}
use Rattle.rules.proofs.Cascade.{rows_length_lem, children, cascaded_month, cascaded_parent}
use Rattle.rules.proofs.HourLaws.{cascading}
use Rattle.accounts.proofs.Lines.{Fits, row_total}
use Rattle.accounts.proofs.Rows.{posted_length, posted_row}
use Rattle.replay.specs.Surplus.{InUse, of_submits}
use Rattle.replay.proofs.Closing.{AreContracts, below_from}

-- ---- the head l' of a ledger with n members and k holidays has the surplus of the head l
pub record HeadSurplus (n k : ℕ) (l l' : List ℕ) : Type 0 where
  pub long : head_length ≤ length l'
  pub size : get_or l' members_place 0 ≡ n
  pub count : get_or l' holiday_count_place 0 ≡ k
  pub places : (i : ℕ) → (InUse n k i → ⊥) → get_or l' i 0 ≡ get_or l i 0

module _ {n k : ℕ} {l l' : List ℕ} (a : HeadSurplus n k l l') where
  pub head_set : (j v : ℕ) → day_place ≤ j → InUse n k j → HeadSurplus n k l (set l' j v)
  head_set j v h b = record {
    long = simp length-set a.long;
    size = get_or-set_other l' j members_place v 0 (λ x. omega arith) ∙ a.size;
    count = get_or-set_other l' j holiday_count_place v 0 (λ x. omega arith) ∙ a.count;
    places = λ i p. get_or-set_other l' j i v 0 (λ e. p (subst (InUse n k) (sym e) b)) ∙ a.places i p;
  }

  pub head_zeros : n ≤ most_members → HeadSurplus n k l (over submits_from (replicate n 0) l')
  head_zeros few =
      let zeros : List ℕ = replicate n 0 in
      let z : length zeros ≡ n = length-replicate {A = ℕ} n 0 in
      let fit : submits_from + length zeros ≤ length l' = omega (arith, z, a.long) in
      record {
        long = omega (arith, over_length submits_from zeros l' fit, a.long);
        size = over_outside submits_from zeros l' fit members_place 0 (λ x. absurd (omega arith)) ∙ a.size;
        count = over_outside submits_from zeros l' fit holiday_count_place 0 (λ x. absurd (omega arith)) ∙ a.count;
        places = λ i p. over_outside submits_from zeros l' fit i 0
            (λ h. le_or_lt (submits_from + length zeros) i (λ q. q) (λ q. absurd (p (of_submits (i - submits_from) (omega (arith, z)) (omega arith))))) ∙ a.places i p;
      }

-- ---- prices past the contracts
pub record PricesSurplus (l l' : List ℕ) : Type 0 where
  pub places : (i : ℕ) → prices_length ≤ i → get_or l' i 0 ≡ get_or l i 0

pub price_set : {l l' : List ℕ} → PricesSurplus l l' → (j v : ℕ) → j < prices_length → PricesSurplus l (set l' j v)
price_set {l} {l'} a j v h = record { places = λ i b. get_or-set_other l' j i v 0 (λ e. omega arith) ∙ a.places i b }

ggfs_stay : (t : Tables) (s : ℕ) (cs : List ℕ) → AreContracts cs → {l l' : List ℕ} → PricesSurplus l l' → PricesSurplus l (with_ggfs t s cs l')
unfolding with_ggfs
ggfs_stay t s [] b a = a
ggfs_stay t s (c ∷ cs) b {l} {l'} a = ggfs_stay t s cs b.1 (price_set a (ggf_place c) (ggf_at_close t s c) (omega (arith, b.0)))

ggfs_length : (t : Tables) (s : ℕ) (cs l : List ℕ) → length (with_ggfs t s cs l) ≡ length l
unfolding with_ggfs
ggfs_length t s [] l = refl
ggfs_length t s (c ∷ cs) l = ggfs_length t s cs (with_ggf c (ggf_at_close t s c) l) ∙ length-set l (ggf_place c) (ggf_at_close t s c)

-- what is done in each of n blocks leaves what is past them
pub past_blocks : {A : Type 0} (z : A) (w : ℕ) (f : List A → List A) → ((b : List A) → length b ≡ w → length (f b) ≡ w)
    → (n : ℕ) (l : List A) → n * w ≤ length l → (i : ℕ) → n * w ≤ i → get_or (in_each_block w f n l) i z ≡ get_or l i z
unfolding in_each_block
past_blocks z w f g zero l s i h = refl
past_blocks z w f g (suc n) l s i h =
    let long : w ≤ length l = omega (arith, suc-mul n w) in
    let first = f (take w l) in
    let rest = in_each_block w f n (drop w l) in
    let wide : length first ≡ w = g (take w l) (length-take-le w l long) in
    let e : i ≡ w + (i - w) = omega (arith, suc-mul n w) in
    let e' : i ≡ length first + (i - w) = omega (arith, wide) in
    ap (λ x. get_or (first ++ rest) x z) e' ∙ get_or-append-add first rest (i - w) z
    ∙ past_blocks z w f g n (drop w l) (simp length-drop (omega (arith, suc-mul n w))) (i - w) (omega (arith, suc-mul n w)) ∙ get_or-drop w l (i - w) z ∙ ap (λ x. get_or l x z) (sym e)

pub priced_stay : (t : Tables) (s : ℕ) (cs : List ℕ) → AreContracts cs → prices_length ≤ length t.prices → PricesSurplus t.prices (without_deals (with_ggfs t s cs t.prices))
unfolding without_deals
priced_stay t s cs b long =
    let l = with_ggfs t s cs t.prices in
    let start : PricesSurplus t.prices t.prices = record { places = λ _ _. refl } in
    record {
      places = λ i h.
          past_blocks 0 price_width (over (day_lots_place 0) (0 ∷ 0 ∷ [])) (λ x e. over_length (day_lots_place 0) (0 ∷ 0 ∷ []) x (omega arith) ∙ e) contract_count l (omega (arith, ggfs_length t s cs t.prices)) i h
          ∙ (ggfs_stay t s cs b start).places i h;
    }

-- ---- rows: of contract c and member m a place is surplus, of any of 32 members past the n or of no contract
abbrev pub OfSurplus : ℕ → ℕ → ℕ → Type 0
OfSurplus n c m = (m < most_members) × (c < contract_count → n ≤ m)

pub record RowsSurplus (n : ℕ) (l l' : List ℤ) : Type 0 where
  pub long : rows_length ≤ length l'
  pub places : (c m : ℕ) → OfSurplus n c m → get_or l' (c * row_width + m) (pos 0) ≡ get_or l (c * row_width + m) (pos 0)

-- lines of members and contracts add nothing there
no_line : (n c m : ℕ) (weigh : Line → ℤ) (ls : List Line) → All (Fits n) ls → OfSurplus n c m → row_total weigh c m ls ≡ pos 0
unfolding row_total
no_line n c m weigh [] fit p = refl
no_line n c m weigh (x ∷ ls) fit p =
    rw (no_line n c m weigh ls fit.1 p)
    (by_eqb (λ b. when b (when (eqb x.member m) (weigh x)) +ℤ pos 0 ≡ pos 0) x.contract c
    (λ e. let past : n ≤ m = p.1 (omega (arith, fit.0.contract<)) in rw (ne_eqb x.member m (λ q. omega (arith, fit.0.member<))) refl)
    (λ e. refl))

pub posted_stay : {n : ℕ} {l l' : List ℤ} → n ≤ most_members → (weigh : Line → ℤ) (ls : List Line) → All (Fits n) ls → RowsSurplus n l l' → RowsSurplus n l (posted weigh ls l')
posted_stay {n} {l} {l'} few weigh ls fit a = record {
  long = omega (arith, posted_length weigh ls l', a.long);
  places = λ c m p. posted_row n weigh ls l' c m a.long fit few p.0 ∙ rw (no_line n c m weigh ls fit p) (simp sorted (a.places c m p));
}

-- a contract's rows written
put_stay : (n c : ℕ) (xs : List ℤ) → length xs ≡ n → c < contract_count → n ≤ most_members → {l l' : List ℤ} → RowsSurplus n l l' → RowsSurplus n l (over (rows_from c) xs l')
put_stay n c xs e h few {l} {l'} a = record {
  long = omega (arith, over_length (rows_from c) xs l' (omega (arith, a.long)), a.long);
  places = λ d m p. over_outside (rows_from c) xs l' (omega (arith, a.long)) (d * row_width + m) (pos 0)
      (λ q. same_or c d (λ z. let past : n ≤ m = p.1 (omega arith) in omega arith) (λ z. let less = p.0 in le_or_lt d c (λ w. absurd (omega arith)) (λ w. omega arith)))
      ∙ a.places d m p;
}

module _ (n : ℕ) (few : n ≤ most_members) where
  added_stay : (p : ℕ) → p < contract_count → (cs : List ℕ) → AreContracts cs → {l l' : List ℤ} → RowsSurplus n l l' → RowsSurplus n l (added_to n p cs l')
  unfolding added_to
  added_stay p h [] b a = a
  added_stay p h (c ∷ cs) b {l} {l'} a =
      let wide = rows_length_lem n c l' a.long b.0 few in
      let sums = zip_with ◌+ℤ◌ (contract_rows n c l') (contract_rows n p l') in
      added_stay p h cs b.1
      (put_stay n c sums (zip_length ◌+ℤ◌ (contract_rows n c l') (contract_rows n p l') (wide ∙ sym (rows_length_lem n p l' a.long h few)) ∙ wide) b.0 few a)

  cascaded_stay : (c : ℕ) → c < term_count → {l l' : List ℤ} → RowsSurplus n l l' → RowsSurplus n l (cascaded n c l')
  cascaded_stay c h {l} {l'} a =
      le_or_lt 5 (c % 17) (λ q. rw (cascaded_month n c l' q) a)
      (λ q. let k = children c h (cascading c h q) in
      rw (cascaded_parent n c l' a.long h few k)
      (put_stay n c (replicate n (pos 0)) (length-replicate n (pos 0)) (omega arith) few
      (added_stay c (omega arith) (from k.first (suc k.more)) (below_from k.first (suc k.more) (omega (arith, k.fit))) a)))

  pub all_cascaded_stay : (cs : List ℕ) → All (λ c. c < term_count) cs → {l l' : List ℤ} → RowsSurplus n l l' → RowsSurplus n l (all_cascaded n cs l')
  unfolding all_cascaded
  all_cascaded_stay [] b a = a
  all_cascaded_stay (c ∷ cs) b a = all_cascaded_stay cs b.1 (cascaded_stay c b.0 a)
