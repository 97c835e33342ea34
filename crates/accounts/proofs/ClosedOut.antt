-- A defaulted member's lines of a close-out are the opposite of its row: what it gives up in the first step and what remains of it in the
-- second are its lots, and it takes none.
use Prim.Native.Nat.{ℕ, zero, suc, ◌+◌, ◌-◌, ◌<◌, min}
use mathlib.Core.Path.{◌≡◌, refl, sym, ap, ap₂, ◌∙◌}
use mathlib.Core.Bool.{true, cond}
use mathlib.Core.List.{List, [], ◌∷◌, ◌++◌, map, zip_with}
use native.Mathlib.Omega.{arith}
use native.Mathlib.Nat.{zero-add}
use lib.Dec.{eqb, ltb}
use lib.ListN.{length, get_or, get_or-map}
use lib.IntN.{ℤ, pos, negsuc, nat_abs, neg_ℤ, ◌+ℤ◌, ◌-ℤ◌, +ℤ_idl, +ℤ_idr, +ℤ_assoc, +ℤ_invr, +ℤ_invl}
use borrow.Author.Tests.{eq-eqb, ne_eqb}
use Rattle.arith.specs.Ints.{when, up, dn}
use Rattle.arith.specs.Lists.{from}
use Rattle.arith.proofs.Tests.{by_bool, by_eqb}
use Rattle.rules.specs.Ledger.{marks_from}
use Rattle.rules.specs.Ranges.{contract_count}
use Rattle.rules.specs.declared.event.CloseOutTerms.{CloseOutTerms}
use Rattle.rules.specs.declared.event.Event.TheVariants.{CloseOut}
use Rattle.rules.specs.Ledger.{Tables, Line, members, mark, defaulted, ggf, lots_at, line_lots, booked}
use Rattle.rules.specs.Records.{legs_of}
use Rattle.rules.specs.Default.{sum_of, defaulted_longs, defaulted_shorts, given_up, less, change_lines, smaller_total, netted_longs, netted_shorts, netting_changes, longs_remaining, shorts_remaining}
use Rattle.rules.specs.Default.{taken, defaulted_changes, taker_changes, close_out_lines, close_out_booked}
use Rattle.rules.specs.Refusals.{apply_spec}
use Rattle.rules.specs.Accounts.{lots}
use Rattle.rules.proofs.SoundEvents.{close_out_contract}
use Rattle.accounts.specs.ClosedOut.{DefaultedAreClosedOut}
use Rattle.accounts.proofs.Runs.{sound_of}
use Rattle.accounts.proofs.Lines.{row_total}
use Rattle.accounts.proofs.Calls.{booked_row}
use Rattle.accounts.proofs.Books.{booked_place}
use Rattle.accounts.proofs.CloseOutLines.{no_change, longs_length, shorts_length, netted_length, after_netting_length, close_out_fits, defaulted_take_none, regroup}
use Rattle.accounts.proofs.EachKind.{accepted_call}

-- ---- what the lines of changes add to a row
row_append : (amount : Line → ℤ) (c m : ℕ) (xs ys : List Line) → row_total amount c m (xs ++ ys) ≡ row_total amount c m xs +ℤ row_total amount c m ys
unfolding row_total
row_append amount c m [] ys = sym (+ℤ_idl (row_total amount c m ys))
row_append amount c m (x ∷ xs) ys =
    let here = when (eqb x.contract c) (when (eqb x.member m) (amount x)) in
    ap (λ z. here +ℤ z) (row_append amount c m xs ys) ∙ sym (+ℤ_assoc here (row_total amount c m xs) (row_total amount c m ys))

module _ (c p : ℕ) where
  -- nothing to a member before the first
  before_first : (a m : ℕ) (zs : List ℤ) → m < a → row_total line_lots c m (change_lines c p a zs) ≡ pos 0
  unfolding row_total change_lines
  before_first a m [] h = refl
  before_first a m (z ∷ zs) h =
      let rest = change_lines c p (suc a) zs in
      by_bool (λ b. row_total line_lots c m (cond b rest (record { member = a; contract = c; lots = z; price = p } ∷ rest)) ≡ pos 0) (eqb (nat_abs z) 0)
      (λ _. before_first (suc a) m zs (omega arith))
      (λ _. rw (eq-eqb c c refl, ne_eqb a m (omega arith), before_first (suc a) m zs (omega arith)))

  -- the lines of changes add to each member's row its change
  change_row : (a i : ℕ) (zs : List ℤ) → row_total line_lots c (a + i) (change_lines c p a zs) ≡ get_or zs i (pos 0)
  unfolding row_total change_lines
  change_row a i [] = refl
  change_row a zero (z ∷ zs) =
      let rest = change_lines c p (suc a) zs in
      let none = before_first (suc a) (a + 0) zs (omega arith) in
      by_eqb (λ b. row_total line_lots c (a + 0) (cond b rest (record { member = a; contract = c; lots = z; price = p } ∷ rest)) ≡ z) (nat_abs z) 0
      (λ e. none ∙ sym (no_change z e))
      (λ _. rw (eq-eqb c c refl, eq-eqb a (a + 0) (omega arith), none) (+ℤ_idr z))
  change_row a (suc i) (z ∷ zs) =
      let rest = change_lines c p (suc a) zs in
      let next : suc a + i ≡ a + suc i = omega arith in
      let more = rw next at (change_row (suc a) i zs) in
      by_bool (λ b. row_total line_lots c (a + suc i) (cond b rest (record { member = a; contract = c; lots = z; price = p } ∷ rest)) ≡ get_or zs i (pos 0)) (eqb (nat_abs z) 0)
      (λ _. more) (λ _. rw (eq-eqb c c refl, ne_eqb a (a + suc i) (omega arith), more) (+ℤ_idl _))

-- ---- the changes of one member
back_less_given_at : (ss ls : List ℕ) (i : ℕ) → length ss ≡ length ls → get_or (zip_with (λ s l. pos s -ℤ pos l) ss ls) i (pos 0) ≡ pos (get_or ss i 0) -ℤ pos (get_or ls i 0)
unfolding zip_with
back_less_given_at [] [] i e = refl
back_less_given_at [] (l ∷ ls) i e = absurd (omega arith)
back_less_given_at (s ∷ ss) [] i e = absurd (omega arith)
back_less_given_at (s ∷ ss) (l ∷ ls) zero e = refl
back_less_given_at (s ∷ ss) (l ∷ ls) (suc i) e = back_less_given_at ss ls i (omega arith)

remaining_at : (q : ℕ) (xs : List ℕ) (i : ℕ) → get_or (less xs (given_up q xs)) i 0 + get_or (given_up q xs) i 0 ≡ get_or xs i 0
unfolding given_up zip_with
remaining_at q [] i = omega arith
remaining_at q (x ∷ xs) zero = omega arith
remaining_at q (x ∷ xs) (suc i) = remaining_at (q - min q x) xs i

member_at : {A : Type 0} (f : ℕ → A) (z : A) (a n i : ℕ) → i < n → get_or (map f (from a n)) i z ≡ f (a + i)
unfolding from
member_at f z a zero i h = absurd (omega arith)
member_at f z a (suc n) zero h = ap f (omega arith)
member_at f z a (suc n) (suc i) h = member_at f z (suc a) n i (omega arith) ∙ ap f (omega arith)

-- lots that come back less lots given up, in two steps
two_steps : (s l s' l' : ℕ) → (pos s -ℤ pos l) +ℤ (pos s' -ℤ pos l') ≡ pos (s + s') -ℤ pos (l + l')
two_steps s l s' l' = regroup (pos s) (pos l) (pos s') (pos l')

-- a row less what it is long, with what it is short
closed : (z : ℤ) → z +ℤ (pos (dn z) -ℤ pos (up z)) ≡ pos 0
unfolding up dn
closed (pos n) = ap (λ x. pos n +ℤ x) (+ℤ_idl (neg_ℤ (pos n))) ∙ +ℤ_invr (pos n)
closed (negsuc n) = ap (λ x. negsuc n +ℤ x) (+ℤ_idr (pos (suc n))) ∙ +ℤ_invl (pos (suc n))

-- ---- a defaulted member m
module _ (t : Tables) (e : CloseOutTerms) (m : ℕ) (member< : m < members t) (d : defaulted t m ≡ true) where
  abbrev c : ℕ
  c = e.contract

  longs : get_or (defaulted_longs t c) m 0 ≡ up (lots_at t c m)
  unfolding defaulted_longs
  longs = member_at _ 0 0 (members t) m member< ∙ rw (zero-add m, d)

  shorts : get_or (defaulted_shorts t c) m 0 ≡ dn (lots_at t c m)
  unfolding defaulted_shorts
  shorts = member_at _ 0 0 (members t) m member< ∙ rw (zero-add m, d)

  netting : get_or (netting_changes t c) m (pos 0) ≡ pos (get_or (netted_shorts t c) m 0) -ℤ pos (get_or (netted_longs t c) m 0)
  unfolding netting_changes netted_shorts netted_longs
  netting = back_less_given_at (netted_shorts t c) (netted_longs t c) m (netted_length t c _ (shorts_length t c) ∙ sym (netted_length t c _ (longs_length t c)))

  remaining : get_or (defaulted_changes t c) m (pos 0) ≡ pos (get_or (shorts_remaining t c) m 0) -ℤ pos (get_or (longs_remaining t c) m 0)
  unfolding defaulted_changes shorts_remaining longs_remaining netted_shorts netted_longs
  remaining = back_less_given_at (shorts_remaining t c) (longs_remaining t c) m (after_netting_length t c _ (shorts_length t c) ∙ sym (after_netting_length t c _ (longs_length t c)))

  -- both steps together
  given_up_lem : get_or (netting_changes t c) m (pos 0) +ℤ get_or (defaulted_changes t c) m (pos 0) ≡ pos (dn (lots_at t c m)) -ℤ pos (up (lots_at t c m))
  unfolding shorts_remaining longs_remaining netted_shorts netted_longs
  given_up_lem =
      let q = smaller_total t c in
      let ss : get_or (netted_shorts t c) m 0 + get_or (shorts_remaining t c) m 0 ≡ dn (lots_at t c m) = omega (arith, remaining_at q (defaulted_shorts t c) m, shorts) in
      let ls : get_or (netted_longs t c) m 0 + get_or (longs_remaining t c) m 0 ≡ up (lots_at t c m) = omega (arith, remaining_at q (defaulted_longs t c) m, longs) in
      ap₂ ◌+ℤ◌ netting remaining ∙ two_steps (get_or (netted_shorts t c) m 0) (get_or (netted_longs t c) m 0) (get_or (shorts_remaining t c) m 0) (get_or (longs_remaining t c) m 0)
      ∙ ap₂ (λ s l. pos s -ℤ pos l) ss ls

  takes_none : get_or (taker_changes t e) m (pos 0) ≡ pos 0
  unfolding taker_changes
  takes_none =
      let b = ltb 0 (sum_of (longs_remaining t c)) in
      let f : ℕ → ℤ = λ q. cond b (pos q) (neg_ℤ (pos q)) in
      let nothing : f 0 ≡ pos 0 = by_bool (λ b. cond b (pos 0) (neg_ℤ (pos 0)) ≡ pos 0) b (λ _. refl) (λ _. refl) in
      ap (get_or (map f (taken t e)) m) (sym nothing) ∙ get_or-map f (taken t e) m 0 ∙ ap f (defaulted_take_none t e m d) ∙ nothing

  lines_close : lots_at t c m +ℤ row_total line_lots c m (close_out_lines t e) ≡ pos 0
  unfolding close_out_lines
  lines_close =
      let p = ggf t c in
      let ns = netting_changes t c in
      let ds = defaulted_changes t c in
      let ts = taker_changes t e in
      let at : (zs : List ℤ) → row_total line_lots c m (change_lines c p 0 zs) ≡ get_or zs m (pos 0) = λ zs. rw (zero-add m) at (change_row c p 0 m zs) in
      let steps = row_append line_lots c m (change_lines c p 0 ns) (change_lines c p 0 ds ++ change_lines c p 0 ts)
      ∙ ap₂ ◌+ℤ◌ (at ns) (row_append line_lots c m (change_lines c p 0 ds) (change_lines c p 0 ts) ∙ ap₂ ◌+ℤ◌ (at ds) (at ts ∙ takes_none) ∙ +ℤ_idr _) in
      ap (λ z. lots_at t c m +ℤ z) (steps ∙ given_up_lem) ∙ closed (lots_at t c m)

pub defaulted_are_closed_out : DefaultedAreClosedOut
unfolding close_out_booked
defaulted_are_closed_out t bytes e r a m h d =
    let k = accepted_call t bytes (CloseOut e) r a in
    let s = sound_of k.tables in
    let ls = close_out_lines t e in
    let c< : e.contract < contract_count = close_out_contract (members t) e (legs_of bytes) k.event in
    let same : (apply_spec t bytes).after ≡ (booked ls t).after = ap (λ o. o.after) k.leads in
    let members_same : members (apply_spec t bytes).after ≡ members t = ap members same ∙ booked_place ls t 1 (λ q. omega arith) in
    let mark-same : mark (apply_spec t bytes).after m ≡ mark t m = ap (λ u. mark u m) same ∙ booked_place ls t (marks_from + m) (λ q. omega arith) in
    ap (λ u. lots_at u e.contract m) same
    ∙ booked_row (members t) ls t t s s.few_members (close_out_fits t e c<) refl refl lots e.contract m (omega (arith, s.few_members))
    ∙ lines_close t e m (omega arith) (ap (λ n. eqb n 1) (sym mark-same) ∙ d)
