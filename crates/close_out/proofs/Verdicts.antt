-- Each answer of a close-out, from the numbers that the code has at hand. Assumes nothing.
use Prim.Native.Nat.{ℕ, zero, suc, ◌+◌, ◌*◌, ◌-◌, ◌≤◌, ◌<◌, min}
use mathlib.Core.Path.{◌≡◌, refl, sym, ap, ◌∙◌}
use mathlib.Core.Bool.{Bool, true, false, cond, ◌&&◌}
use mathlib.Core.List.{List, [], ◌∷◌, ◌++◌, map}
use native.Mathlib.Omega.{arith}
use native.Mathlib.Nat.{add-zero}
use lib.Dec.{eqb, ltb}
use lib.IntN.{ℤ, pos, negsuc}
use lib.ListN.{length, get_or}
use borrow.Author.Tests.{eq-eqb, ne_eqb, lt-ltb, le-ltb}
use Rattle.std.specs.Prelude.{Ok, Err}
use Rattle.arith.specs.Ints.{up, dn}
use Rattle.arith.specs.Lists.{from}
use Rattle.arith.proofs.Tests.{le_or_lt, never}
use Rattle.rules.specs.declared.refusal.Refusal.TheVariants.{ContractNotOpen, NoReferencePrice, NoDefaultedLots, NoTaker, TotalPassed}
use Rattle.rules.specs.declared.event.CloseOutTerms.{CloseOutTerms}
use Rattle.rules.specs.Default.{sum_of, given_up, less, defaulted_longs, defaulted_shorts, smaller_total, netted_longs, netted_shorts, netting_changes, longs_remaining, shorts_remaining, lots_remaining}
use Rattle.rules.specs.Default.{weights, taken, defaulted_changes, taker_changes, close_out_lines, close_out_booked}
use Rattle.rules.specs.Ledger.{Tables, price_width, ggf_place, members, lots_run, defaulted, lots_at, is_open, ggf, line_run, booked, with_head, with_rows}
use Rattle.rules.specs.Ranges.{contract_count, most_members, most_lots_run}
use Rattle.rules.specs.Refusals.{close_out_spec}
use Rattle.rules.proofs.Netting.{given_sum, given_length, given_le}
use Rattle.tables.specs.Fit.{RowsFit, members_in}
use Rattle.dealing.specs.Levels.{most_weight, MemberColumn}
use Rattle.close_out_weights.specs.declared.columns.Part.{Part}
use Rattle.close_out_weights.specs.declared.columns.Part.TheVariants.{DefaultedLongs, DefaultedShorts}
use Rattle.close_out_weights.specs.Columns.{column_of}
use Rattle.deal_lines.specs.Room.{Bookable}
use Rattle.close_out.specs.Booking.{with_each, changes, netting_lines, defaulted_lines, taker_lines, step_lines, Defaulted, Dealable}
use Rattle.close_out.proofs.Changes.{each_booked}
use Rattle.deal_lines.proofs.Takes.{Takes, rows_wider}
use Rattle.close_out.proofs.Running.{blank}
use Rattle.close_out.proofs.Runs.{remaining_sum, change_run, Apart, apart_run, takers_run}
use Rattle.close_out.proofs.StepBooking.{remaining_length, less_le}
use Rattle.close_out_weights.proofs.ColumnFits.{column_length, column_fits, column_sum}
use Rattle.rules.proofs.LinesRun.{run_append}

pub rows_fit : {head : List ℕ} {lots value lines : List ℤ} → Bookable 0 head lots value lines → RowsFit (members_in head) most_lots_run lots
rows_fit f = rows_wider _ _ most_lots_run _ (omega (arith, f.most_run)) f.lots_fit

-- ---- a column that was read
pub record Read (head column : List ℕ) : Type 0 where
  pub fits : MemberColumn most_weight column
  pub most : sum_of column ≤ most_members * most_lots_run
  pub long : length column ≡ members_in head

pub read_fits : (part : Part) (head : List ℕ) (lots : List ℤ) (c : ℕ) (column : List ℕ) → members_in head ≤ most_members → RowsFit (members_in head) most_lots_run lots → c < contract_count
    → ((t : Tables) (v : List ℤ) → column ≡ column_of part (with_head head (with_rows lots v t)) c) → Read head column
read_fits part head lots c column few rows h e =
    let t = with_head head (with_rows lots [] blank) in
    let q = e blank [] in
    record { fits = rw q (column_fits t few rows part c h); most = rw q (column_sum t few rows part c h); long = rw q (column_length t few rows part c) }

longs_column : (t : Tables) (c : ℕ) → defaulted_longs t c ≡ column_of DefaultedLongs t c
unfolding defaulted_longs column_of
longs_column t c = refl

shorts_column : (t : Tables) (c : ℕ) → defaulted_shorts t c ≡ column_of DefaultedShorts t c
unfolding defaulted_shorts column_of
shorts_column t c = refl

-- Of what is left: the smaller of two numbers taken from each.
less_smaller : (q a b : ℕ) → q ≡ min a b → (a - min q a) + (b - min q b) ≡ (a - q) + (b - q)
less_smaller q a b e = let left : min q a ≡ q = omega arith in let right : min q b ≡ q = omega arith in rw (left, right)

-- What the columns and their sums tell of the defaulted.
module _ (head : List ℕ) (lots : List ℤ) (c : ℕ) (longs shorts : List ℕ)
    (el : (t : Tables) (v : List ℤ) → longs ≡ column_of DefaultedLongs (with_head head (with_rows lots v t)) c)
    (es : (t : Tables) (v : List ℤ) → shorts ≡ column_of DefaultedShorts (with_head head (with_rows lots v t)) c)
    (long short q : ℕ) (nl : long ≡ sum_of longs) (ns : short ≡ sum_of shorts) (nq : q ≡ min long short) where
  abbrev put_in : Tables → List ℤ → Tables
  put_in t v = with_head head (with_rows lots v t)

  longs_of : (t : Tables) (v : List ℤ) → defaulted_longs (put_in t v) c ≡ longs
  longs_of t v = longs_column (put_in t v) c ∙ sym (el t v)

  shorts_of : (t : Tables) (v : List ℤ) → defaulted_shorts (put_in t v) c ≡ shorts
  shorts_of t v = shorts_column (put_in t v) c ∙ sym (es t v)

  netted_of : (t : Tables) (v : List ℤ) → smaller_total (put_in t v) c ≡ q
  unfolding smaller_total
  netted_of t v = rw (longs_of t v, shorts_of t v, ← nl, ← ns) (sym nq)

  remaining_of : (t : Tables) (v : List ℤ) → lots_remaining (put_in t v) c ≡ (long - q) + (short - q)
  unfolding lots_remaining longs_remaining shorts_remaining netted_longs netted_shorts
  remaining_of t v = rw (netted_of t v, longs_of t v, shorts_of t v) (rw (remaining_sum q longs, remaining_sum q shorts, ← nl, ← ns) (less_smaller q long short nq))

  pub defaulted_found : Defaulted head lots c q ((long - q) + (short - q)) longs shorts
  defaulted_found = record { longs_are = longs_of; shorts_are = shorts_of; netted = netted_of; remaining = remaining_of }

-- ---- longs and shorts apart
up_or_dn : (z : ℤ) → min (dn z) (up z) ≡ 0
unfolding up dn
up_or_dn (pos n) = omega arith
up_or_dn (negsuc n) = omega arith

marked_apart : (b : Bool) (z : ℤ) → min (cond b (dn z) 0) (cond b (up z) 0) ≡ 0
marked_apart true z = up_or_dn z
marked_apart false z = omega arith

mapped_apart : (f g : ℕ → ℕ) (l : List ℕ) → ((m : ℕ) → min (f m) (g m) ≡ 0) → Apart (map f l) (map g l)
mapped_apart f g [] h i = omega arith
mapped_apart f g (x ∷ l) h zero = h x
mapped_apart f g (x ∷ l) h (suc i) = mapped_apart f g l h i

columns_apart : (t : Tables) (c : ℕ) → Apart (defaulted_shorts t c) (defaulted_longs t c)
unfolding defaulted_shorts defaulted_longs
columns_apart t c = mapped_apart (λ m. cond (defaulted t m) (dn (lots_at t c m)) 0) (λ m. cond (defaulted t m) (up (lots_at t c m)) 0) (from 0 (members t))
    (λ m. marked_apart (defaulted t m) (lots_at t c m))

apart_less : (xs ys xs' ys' : List ℕ) → ((i : ℕ) → get_or xs' i 0 ≤ get_or xs i 0) → ((i : ℕ) → get_or ys' i 0 ≤ get_or ys i 0) → Apart xs ys → Apart xs' ys'
apart_less xs ys xs' ys' f g a i = omega (arith, f i, g i, a i)

-- ---- the lines in the code's terms
spec_lines : (t : Tables) (e : CloseOutTerms) → close_out_lines t e
    ≡ step_lines e.contract (ggf t e.contract) (smaller_total t e.contract) (lots_remaining t e.contract) (defaulted_longs t e.contract) (defaulted_shorts t e.contract) (weights t e)
unfolding close_out_lines netting_changes defaulted_changes taker_changes taken netted_longs netted_shorts longs_remaining shorts_remaining step_lines netting_lines defaulted_lines taker_lines
spec_lines t e = refl

module _ (t : Tables) (f : Takes 0 t) (e : CloseOutTerms) (below : e.contract < contract_count)
    (q l : ℕ) (longs shorts : List ℕ) (d : Defaulted t.head t.lots e.contract q l longs shorts) where
  abbrev c : ℕ
  c = e.contract

  longs_here : defaulted_longs t c ≡ longs
  longs_here = d.longs_are t t.value

  shorts_here : defaulted_shorts t c ≡ shorts
  shorts_here = d.shorts_are t t.value

  netted_here : smaller_total t c ≡ q
  netted_here = d.netted t t.value

  remaining_here : lots_remaining t c ≡ l
  remaining_here = d.remaining t t.value

  longs_read : Read t.head longs
  longs_read = read_fits DefaultedLongs t.head t.lots c longs f.most_members_holds (rows_fit f) below (λ s v. sym (d.longs_are s v) ∙ longs_column _ c)

  shorts_read : Read t.head shorts
  shorts_read = read_fits DefaultedShorts t.head t.lots c shorts f.most_members_holds (rows_fit f) below (λ s v. sym (d.shorts_are s v) ∙ shorts_column _ c)

  netted_is : min (sum_of longs) (sum_of shorts) ≡ q
  unfolding smaller_total
  netted_is = rw (longs_here, shorts_here) at netted_here

  remaining_is : sum_of (less longs (given_up q longs)) + sum_of (less shorts (given_up q shorts)) ≡ l
  unfolding lots_remaining longs_remaining shorts_remaining netted_longs netted_shorts
  remaining_is = rw (netted_here, longs_here, shorts_here) at remaining_here

  all_lots : sum_of longs + sum_of shorts ≡ (q + q) + l
  all_lots = omega (arith, remaining_is, remaining_sum q longs, remaining_sum q shorts, netted_is)

  apart : Apart shorts longs
  apart = rw (longs_here, shorts_here) at (columns_apart t c)

  wide : length shorts ≡ length longs
  wide = shorts_read.long ∙ sym longs_read.long

  netting_run : (p : ℕ) → line_run (netting_lines c p q longs shorts) ≡ q + q
  unfolding netting_lines
  netting_run p =
      let gs = given_up q shorts in
      let gl = given_up q longs in
      change_run c p 0 (changes gs gl)
      ∙ apart_run gs gl (given_length q shorts ∙ wide ∙ sym (given_length q longs)) (apart_less shorts longs gs gl (given_le q shorts) (given_le q longs) apart)
      ∙ omega (arith, given_sum q shorts, given_sum q longs, netted_is)

  defaulted_run : (p : ℕ) → line_run (defaulted_lines c p q longs shorts) ≡ l
  unfolding defaulted_lines
  defaulted_run p =
      let ls = less shorts (given_up q shorts) in
      let ll = less longs (given_up q longs) in
      change_run c p 0 (changes ls ll)
      ∙ apart_run ls ll (remaining_length q shorts ∙ wide ∙ sym (remaining_length q longs))
      (apart_less shorts longs ls ll (less_le shorts (given_up q shorts)) (less_le longs (given_up q longs)) apart)
      ∙ omega (arith, remaining_is)

  takers_there : (ws : List ℕ) (sum : ℕ) → sum ≡ sum_of ws → ltb 0 l && eqb sum 0 ≡ false → 0 < l → 0 < sum_of ws
  takers_there ws sum e h k = le_or_lt 1 (sum_of ws) (λ p. p) (λ p. never (rw (lt-ltb 0 l k, eq-eqb sum 0 (omega arith)) at h))

  pub dealable : (ws : List ℕ) (sum : ℕ) → sum ≡ sum_of ws → ltb 0 l && eqb sum 0 ≡ false → length ws ≡ members_in t.head → MemberColumn most_weight ws → Dealable q l (members_in t.head) longs shorts ws
  dealable ws sum e h long g =
      record {
        longs_length = longs_read.long;
        shorts_length = shorts_read.long;
        weights_length = long;
        longs_column = longs_read.fits;
        weights_column = g;
        remaining = sym remaining_is;
        takers = takers_there ws sum e h;
      }

  -- for an open contract that has a price
  module _ (price : ℕ) (some : 0 < price) (opened : is_open t e.contract ≡ true) (priced : ggf t e.contract ≡ price) where
    no_price : eqb (ggf t c) 0 ≡ false
    no_price = rw priced (ne_eqb price 0 (λ z. omega arith))

    pub no_lots : q + l ≡ 0 → record { answer = Err NoDefaultedLots; after = t } ≡ close_out_spec t e
    unfolding close_out_spec
    no_lots h = rw (opened, no_price, longs_here, shorts_here, eq-eqb (sum_of longs + sum_of shorts) 0 (omega (arith, all_lots)))

    -- there are lots of the defaulted, and ws are the weights
    module _ (there : q + l ≡ 0 → ⊥) (ws : List ℕ) (sum : ℕ) (summed : sum ≡ sum_of ws)
        (weighed : lots_remaining t e.contract ≡ l → ws ≡ weights t e) where
      weights_here : weights t e ≡ ws
      weights_here = sym (weighed remaining_here)

      some_lots : eqb (sum_of longs + sum_of shorts) 0 ≡ false
      some_lots = ne_eqb (sum_of longs + sum_of shorts) 0 (λ z. there (omega (arith, all_lots)))

      lines_are : close_out_lines t e ≡ step_lines c price q l longs shorts ws
      lines_are = spec_lines t e ∙ rw (priced, netted_here, remaining_here, longs_here, shorts_here, weights_here)

      pub no_taker : ltb 0 l && eqb sum 0 ≡ true → record { answer = Err NoTaker; after = t } ≡ close_out_spec t e
      unfolding close_out_spec
      no_taker h = rw (opened, no_price, longs_here, shorts_here, some_lots, remaining_here, weights_here, ← summed, h)

      module _ (taker : ltb 0 l && eqb sum 0 ≡ false) where
        run_is : line_run (close_out_lines t e) ≡ (q + q) + (l + l)
        unfolding step_lines
        run_is =
            let ns = netting_lines c price q longs shorts in
            let fs = defaulted_lines c price q longs shorts in
            let long = sum_of (less longs (given_up q longs)) in
            let ts = taker_lines c price long l ws in
            rw lines_are
            (omega (arith, run_append ns (fs ++ ts), run_append fs ts, netting_run price, defaulted_run price, takers_run c price long l ws (takers_there ws sum summed taker)))

        pub passed : most_lots_run < lots_run t + ((q + q) + (l + l)) → record { answer = Err TotalPassed; after = t } ≡ close_out_spec t e
        unfolding close_out_spec
        passed k = rw (opened, no_price, longs_here, shorts_here, some_lots, remaining_here, weights_here, ← summed, taker, run_is, lt-ltb most_lots_run (lots_run t + ((q + q) + (l + l))) k)

        pub booked_so : lots_run t + ((q + q) + (l + l)) ≤ most_lots_run → (n : ℕ) (t' : Tables) → n ≡ length (step_lines c price q l longs shorts ws)
            → t' ≡ with_each 0 (step_lines c price q l longs shorts ws) t → record { answer = Ok n; after = t' } ≡ close_out_spec t e
        unfolding close_out_spec close_out_booked booked
        booked_so k n t' en et =
            rw (en, et, each_booked (step_lines c price q l longs shorts ws) t (omega (arith, f.long)), ← lines_are)
            (rw (opened, no_price, longs_here, shorts_here, some_lots, remaining_here, weights_here, ← summed, taker, run_is, le-ltb most_lots_run (lots_run t + ((q + q) + (l + l))) k))

-- ---- the causes that need no lots
-- A contract's GGF stands first of its prices.
pub first_price : (prices : List ℕ) (c : ℕ) → get_or prices (c * price_width + 0) 0 ≡ get_or prices (ggf_place c) 0
first_price prices c = ap (λ i. get_or prices i 0) (add-zero (c * price_width))

pub not_open : (t : Tables) (e : CloseOutTerms) → is_open t e.contract ≡ false → record { answer = Err (ContractNotOpen e.contract); after = t } ≡ close_out_spec t e
unfolding close_out_spec
not_open t e h = rw h

pub no_reference : (t : Tables) (e : CloseOutTerms) → is_open t e.contract ≡ true → ggf t e.contract ≡ 0 → record { answer = Err NoReferencePrice; after = t } ≡ close_out_spec t e
unfolding close_out_spec
no_reference t e h z = rw (h, eq-eqb (ggf t e.contract) 0 z)
