-- The three steps booked one after the other: the room each has, and that together they are the lines of the close-out. Assumes nothing.
use Prim.Native.Nat.{ℕ, zero, suc, ◌+◌, ◌-◌, ◌≤◌, ◌<◌}
use mathlib.Core.Path.{◌≡◌, refl, sym, ap, subst, ◌∙◌}
use mathlib.Core.List.{List, [], ◌∷◌, ◌++◌, zip_with, append-nil, append_assoc}
use native.Mathlib.Omega.{arith}
use native.Mathlib.Nat.{zero-add}
use lib.IntN.{pos, ◌-ℤ◌}
use lib.ListN.{length, get_or, length-append}
use Rattle.arith.proofs.Overs.{zip_length}
use Rattle.rules.specs.Default.{sum_of, given_up, less, change_lines}
use Rattle.rules.specs.Ledger.{Tables, Line, members}
use Rattle.rules.specs.Ranges.{contract_count, most_price, least_lines, most_members}
use Rattle.rules.proofs.Netting.{given_length}
use Rattle.tables.specs.Fit.{members_in}
use Rattle.dealing.specs.Levels.{most_weight, MemberColumn}
use Rattle.close_out.specs.Booking.{with_each, changes, netting_lines, defaulted_lines, taker_lines, step_lines, Dealable}
use Rattle.close_out.proofs.Changes.{each_append}
use Rattle.deal_lines.proofs.Takes.{Takes, less_room}
use Rattle.close_out.proofs.Takes.{each_members}
use Rattle.close_out.proofs.StepColumns.{netting_room}
use Rattle.close_out.proofs.Runs.{change_length, most_run, no_takers, takes_lines}

changes_length : (xs ys : List ℕ) → length xs ≡ length ys → length (changes xs ys) ≡ length xs
changes_length xs ys e = zip_length (λ s l. pos s -ℤ pos l) xs ys e

less_length : (xs ys : List ℕ) → length ys ≡ length xs → length (less xs ys) ≡ length xs
less_length xs ys e = zip_length (λ x y. x - y) xs ys (sym e)

pub less_le : (xs ys : List ℕ) (i : ℕ) → get_or (less xs ys) i 0 ≤ get_or xs i 0
unfolding zip_with
less_le [] ys i = omega arith
less_le (x ∷ xs) [] i = omega arith
less_le (x ∷ xs) (y ∷ ys) zero = omega arith
less_le (x ∷ xs) (y ∷ ys) (suc i) = less_le xs ys i

pub remaining_length : (q : ℕ) (held : List ℕ) → length (less held (given_up q held)) ≡ length held
remaining_length q held = less_length held (given_up q held) (given_length q held)

pub remaining_column : (q : ℕ) (held remaining : List ℕ) → remaining ≡ less held (given_up q held) → MemberColumn most_weight held → MemberColumn most_weight remaining
remaining_column q held remaining e f =
    record { few = omega (arith, ap length e, remaining_length q held, f.few); each = λ i. rw e (omega (arith, less_le held (given_up q held) i, f.each i)) }

-- ---- tables after lines
module _ (t t' : Tables) (i : ℕ) (ls : List Line) (same : t' ≡ with_each i ls t) where
  carried : (room : ℕ) → Takes room (with_each i ls t) → Takes room t'
  carried room f = subst (λ (s : Tables). Takes room s) (sym same) f

  members_same : members_in t'.head ≡ members_in t.head
  members_same = ap (λ (s : Tables). members_in s.head) same ∙ each_members i ls t

-- Changes of two columns take at most their sums.
takes_columns : (c p : ℕ) → c < contract_count → p ≤ most_price → (gains losses : List ℕ) (room i : ℕ) (t : Tables) → length gains ≡ members t → length losses ≡ length gains
    → i + length gains ≤ least_lines → Takes (sum_of gains + sum_of losses + room) t → Takes room (with_each i (change_lines c p 0 (changes gains losses)) t)
takes_columns c p hc hp gains losses room i t a b k f =
    let long = changes_length gains losses (sym b) in
    takes_lines c p hc hp (changes gains losses) room i 0 t (omega arith) (omega arith) (less_room _ _ (omega (arith, most_run gains losses (sym b))) f)

module _ (c p q l : ℕ) (longs shorts ws : List ℕ) (hc : c < contract_count) (hp : p ≤ most_price) (t : Tables)
    (f : Takes ((q + q) + (l + l)) t) (d : Dealable q l (members_in t.head) longs shorts ws) where
  few : members_in t.head ≤ most_members
  few = f.most_members_holds

  netting_few : length (netting_lines c p q longs shorts) ≤ members_in t.head
  unfolding netting_lines
  netting_few =
      let gs = given_up q shorts in
      let gl = given_up q longs in
      omega (
        arith,
        change_length c p 0 (changes gs gl),
        changes_length gs gl (given_length q shorts ∙ d.shorts_length ∙ sym (given_length q longs ∙ d.longs_length)),
        given_length q shorts,
        d.shorts_length,
      )

  netted : Takes (l + l) (with_each 0 (netting_lines c p q longs shorts) t)
  unfolding netting_lines
  netted =
      let gs = given_up q shorts in
      let gl = given_up q longs in
      let wide = given_length q shorts ∙ d.shorts_length in
      takes_columns c p hc hp gs gl (l + l) 0 t wide (given_length q longs ∙ d.longs_length ∙ sym wide) (omega (arith, few))
      (less_room _ _ (omega (arith, netting_room c p q longs shorts gl gs refl refl)) f)

  -- after step 1
  module _ (t1 : Tables) (first : ℕ) (longs1 shorts1 : List ℕ) (count1 : first ≡ length (netting_lines c p q longs shorts))
      (el : longs1 ≡ less longs (given_up q longs)) (es : shorts1 ≡ less shorts (given_up q shorts))
      (same1 : t1 ≡ with_each 0 (netting_lines c p q longs shorts) t) where
    ready1 : Takes (l + l) t1
    ready1 = carried t t1 0 (netting_lines c p q longs shorts) same1 (l + l) netted

    members1 : members_in t1.head ≡ members_in t.head
    members1 = members_same t t1 0 (netting_lines c p q longs shorts) same1

    sums1 : sum_of shorts1 + sum_of longs1 ≡ l
    sums1 = omega (arith, ap sum_of el, ap sum_of es, d.remaining)

    shorts_wide : length shorts1 ≡ members_in t1.head
    shorts_wide = ap length es ∙ remaining_length q shorts ∙ d.shorts_length ∙ sym members1

    longs_wide : length longs1 ≡ length shorts1
    longs_wide = ap length el ∙ remaining_length q longs ∙ d.longs_length ∙ sym members1 ∙ sym shorts_wide

    first_few : first + length shorts1 ≤ least_lines
    first_few = omega (arith, count1, netting_few, few, shorts_wide, members1)

    pub second_requires : Takes (sum_of shorts1 + sum_of longs1) t1
        × (((first + length shorts1 ≤ least_lines) × (c < contract_count) × (p ≤ most_price)) × ((length shorts1 ≡ members_in t1.head) × (length longs1 ≡ length shorts1)))
    second_requires = (less_room _ _ (omega (arith, sums1)) ready1, ((first_few, hc, hp), (shorts_wide, longs_wide)))

    -- after the defaulted of step 2
    module _ (t2 : Tables) (second : ℕ) (count2 : second ≡ first + length (change_lines c p 0 (changes shorts1 longs1)))
        (same2 : t2 ≡ with_each first (change_lines c p 0 (changes shorts1 longs1)) t1) where
      abbrev netting : List Line
      netting = netting_lines c p q longs shorts

      abbrev defaulted : List Line
      defaulted = defaulted_lines c p q longs shorts

      defaulted_is : change_lines c p 0 (changes shorts1 longs1) ≡ defaulted
      unfolding defaulted_lines
      defaulted_is = rw (es, el)

      ready2 : Takes l t2
      ready2 =
          carried t1 t2 first (change_lines c p 0 (changes shorts1 longs1)) same2 l
          (takes_columns c p hc hp shorts1 longs1 l first t1 shorts_wide longs_wide first_few (less_room _ _ (omega (arith, sums1)) ready1))

      members2 : members_in t2.head ≡ members_in t.head
      members2 = members_same t1 t2 first (change_lines c p 0 (changes shorts1 longs1)) same2 ∙ members1

      second_few : second ≤ members_in t.head + members_in t.head
      second_few = omega (arith, count1, count2, netting_few, change_length c p 0 (changes shorts1 longs1), changes_length shorts1 longs1 (sym longs_wide), shorts_wide, members1)

      pub takers_requires : 0 < l → (Takes l t2 × MemberColumn most_weight ws × (0 < sum_of ws))
          × ((c < contract_count) × (p ≤ most_price) × (second + length ws ≤ least_lines) × (length ws ≡ members_in t2.head))
      takers_requires h = ((ready2, d.weights_column, d.takers h), (hc, hp, omega (arith, second_few, d.weights_length, few), d.weights_length ∙ sym members2))

      -- both steps as lines of one list
      both : t2 ≡ with_each (0 + length netting) defaulted (with_each 0 netting t)
      both = same2 ∙ rw (defaulted_is, same1, count1, zero-add (length netting))

      counted : second ≡ length (netting ++ defaulted)
      counted = omega (arith, count1, count2, ap length defaulted_is, length-append netting defaulted)

      together : t2 ≡ with_each 0 (netting ++ defaulted) t
      together = both ∙ sym (each_append 0 netting defaulted t)

      steps_are : (long : ℕ) → long ≡ sum_of longs1 → (netting ++ defaulted) ++ taker_lines c p long l ws ≡ step_lines c p q l longs shorts ws
      unfolding step_lines
      steps_are long e = append_assoc netting defaulted (taker_lines c p long l ws) ∙ rw (e, el)

      pub finish : (long : ℕ) → long ≡ sum_of longs1 → (t3 : Tables) (r : ℕ) → r ≡ second + length (taker_lines c p long l ws)
          → t3 ≡ with_each second (taker_lines c p long l ws) t2
          → (r ≡ length (step_lines c p q l longs shorts ws)) × (t3 ≡ with_each 0 (step_lines c p q l longs shorts ws) t)
      finish long e t3 r er same3 =
          let takers = taker_lines c p long l ws in
          let all = steps_are long e in (
            er ∙ ap (λ n. n + length takers) counted ∙ sym (length-append (netting ++ defaulted) takers) ∙ ap length all,
            same3 ∙ rw (together, counted)
                (sym (rw (zero-add (length (netting ++ defaulted))) at (each_append 0 (netting ++ defaulted) takers t))
                ∙ ap (λ ls. with_each 0 ls t) all),
          )

      pub done : l ≡ 0 → (second ≡ length (step_lines c p q l longs shorts ws))
          × (t2 ≡ with_each 0 (step_lines c p q l longs shorts ws) t)
      done z =
          let none : taker_lines c p (sum_of longs1) l ws ≡ [] = rw z (no_takers c p (sum_of longs1) ws) in
          let all : netting ++ defaulted ≡ step_lines c p q l longs shorts ws = sym (append-nil (netting ++ defaulted)) ∙ (rw none at (steps_are (sum_of longs1) refl)) in
          (counted ∙ ap length all, together ∙ ap (λ ls. with_each 0 ls t) all)
