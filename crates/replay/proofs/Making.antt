-- Ledgers made from the same header agree but for surplus, whatever the tables held. Assumes nothing.
use Prim.Native.Nat.{ℕ, ◌+◌, ◌*◌, ◌-◌, ◌≤◌, ◌<◌}
use mathlib.Core.Path.{◌≡◌, refl, sym, ap, subst, subst₂, ◌∙◌}
use mathlib.Core.List.{List, [], ◌∷◌}
use native.Mathlib.Omega.{arith}
use lib.ListN.{length, get_or, replicate, length-replicate, length-take, length-drop}
use lib.IntN.{ℤ, pos}
use Rattle.arith.specs.Lists.{All, over}
use Rattle.arith.proofs.EachBlock.{block, block_at, in_each_block_lem, in_each_length}
use Rattle.arith.proofs.Overs.{over_length, over_inside, over_outside}
use Rattle.arith.proofs.Tests.{le_or_lt, passed, failed}
use Rattle.rules.specs.Ranges.{contract_count, most_members, most_price}
use Rattle.rules.specs.Header.{Header, header_of}
use Rattle.rules.specs.Ledger.{Tables, head_length, holidays_from, limits_from, marks_from, submits_from, first_year_place, price_width, prices_length, row_width, rows_length, ledger_short, fresh_head, fresh_prices, fresh_rows, fresh}
use Rattle.rules.specs.Refusals.{make_spec}
use Rattle.rules.specs.Accounts.{Column, lots, value, row}
use Rattle.rules.proofs.SoundHeaders.{SoundHeader, header_gives, begun}
use Rattle.rules.proofs.SoundTables.{Long, long_enough}
use Rattle.accounts.proofs.Fresh.{counts_of, holiday_count_of, fresh_runs, fresh_zero}
use Rattle.accounts.proofs.SameLengths.{fresh_lengths, stays_long}
use Rattle.accounts.proofs.TwoBookkeepers.{made}
use Rattle.replay.specs.Surplus.{InUse, of_ledger, of_holiday, of_limit, of_mark, of_submits, SameButSurplus, SurplusUntouched}
use Rattle.replay.specs.Replay.{MakesAlike, MakingLeavesSurplus, Recovers}
use Rattle.replay.proofs.Alike.{PricesAlike, Alike, same_of}
use Rattle.replay.proofs.EveryList.{replays_alike}
use Rattle.replay.proofs.SurplusParts.{past_blocks}

-- ---- the head is written part after part, each from its place on
abbrev Part : Type 0
Part = ℕ × List ℕ

unfoldable written : List Part → List ℕ → List ℕ
written [] l = l
written (p ∷ ps) l = over p.0 p.1 (written ps l)

-- place i lies outside a part
abbrev Outside : ℕ → Part → Type 0
Outside i p = p.0 ≤ i → i < p.0 + length p.1 → ⊥

abbrev AllFit : List Part → Type 0
AllFit ps = All (λ p. p.0 + length p.1 ≤ head_length) ps

still_long : (ps : List Part) (l : List ℕ) → AllFit ps → head_length ≤ length l → head_length ≤ length (written ps l)
unfolding written
still_long [] l f s = s
still_long (p ∷ ps) l f s = let rest = still_long ps l f.1 s in omega (arith, over_length p.0 p.1 (written ps l) (omega (arith, f.0)))

outside_stays : (p : Part) (l : List ℕ) (i : ℕ) → p.0 + length p.1 ≤ length l → Outside i p → get_or (over p.0 p.1 l) i 0 ≡ get_or l i 0
outside_stays p l i fit o = over_outside p.0 p.1 l fit i 0 (λ k. le_or_lt (p.0 + length p.1) i (λ q. q) (λ q. absurd (o k q)))

-- a place outside all parts stays
written_stays : (ps : List Part) (l : List ℕ) → AllFit ps → head_length ≤ length l → (i : ℕ) → All (Outside i) ps → get_or (written ps l) i 0 ≡ get_or l i 0
unfolding written
written_stays [] l f s i o = refl
written_stays (p ∷ ps) l f s i o = outside_stays p (written ps l) i (omega (arith, f.0, still_long ps l f.1 s)) o.0 ∙ written_stays ps l f.1 s i o.1

-- any other is the same, whatever the tables held
written_same : (ps : List Part) (l l' : List ℕ) → AllFit ps → head_length ≤ length l → head_length ≤ length l' → (i : ℕ) → (All (Outside i) ps → ⊥) → get_or (written ps l) i 0 ≡ get_or (written ps l') i 0
unfolding written
written_same [] l l' f s s' i none = absurd (none tt)
written_same (p ∷ ps) l l' f s s' i none =
    let a = p.0 in
    let xs = p.1 in
    let fit : a + length xs ≤ length (written ps l) = omega (arith, f.0, still_long ps l f.1 s) in
    let fit' : a + length xs ≤ length (written ps l') = omega (arith, f.0, still_long ps l' f.1 s') in
    let outside : Outside i p → get_or (over a xs (written ps l)) i 0 ≡ get_or (over a xs (written ps l')) i 0 = λ o.
    outside_stays p (written ps l) i fit o ∙ written_same ps l l' f.1 s s' i (λ all. none (o, all)) ∙ sym (outside_stays p (written ps l') i fit' o) in
    le_or_lt a i
    (λ h. le_or_lt (a + length xs) i (λ k. outside (λ _ q. absurd (omega arith)))
    (λ k. let q : i ≡ a + (i - a) = omega arith in rw q (over_inside a xs (written ps l) fit (i - a) 0 (omega arith) ∙ sym (over_inside a xs (written ps l') fit' (i - a) 0 (omega arith)))))
    (λ h. outside (λ k _. absurd (omega arith)))

module _ (h : Header) (f : SoundHeader h) where
  abbrev parts : List Part
  parts =
      let zeros : List ℕ = replicate h.members 0 in
      (submits_from, zeros)
      ∷ (marks_from, zeros)
      ∷ (limits_from, h.limits)
      ∷ (holidays_from, h.holidays)
      ∷ (first_year_place, h.first_year ∷ h.members ∷ length h.holidays ∷ h.start_day ∷ 0 ∷ 0 ∷ 0 ∷ 0 ∷ [])
      ∷ []

  zeros_length : length (replicate {A = ℕ} h.members 0) ≡ h.members
  zeros_length = length-replicate {A = ℕ} h.members 0

  fits : AllFit parts
  fits =
      let few = f.members_range.to in
      (omega (arith, zeros_length, few), (omega (arith, zeros_length, few), (omega (arith, f.one_limit, few), (omega (arith, f.holidays≤), (omega arith, tt)))))

  -- the places in use are those of the parts
  in_parts : (i : ℕ) → InUse h.members (length h.holidays) i → All (Outside i) parts → ⊥
  in_parts i (of_ledger b) o = o.1.1.1.1.0 (omega arith) (omega arith)
  in_parts i (of_holiday j b e) o = o.1.1.1.0 (omega arith) (omega arith)
  in_parts i (of_limit j b e) o = o.1.1.0 (omega arith) (omega (arith, f.one_limit))
  in_parts i (of_mark j b e) o = o.1.0 (omega arith) (omega (arith, zeros_length))
  in_parts i (of_submits j b e) o = o.0 (omega arith) (omega (arith, zeros_length))

  in_no_part : (i : ℕ) → (InUse h.members (length h.holidays) i → ⊥) → All (Outside i) parts
  in_no_part i p = (
    λ x y. p (of_submits (i - submits_from) (omega (arith, zeros_length)) (omega arith)),
    (
      λ x y. p (of_mark (i - marks_from) (omega (arith, zeros_length)) (omega arith)),
      (
        λ x y. p (of_limit (i - limits_from) (omega (arith, f.one_limit)) (omega arith)),
        (λ x y. p (of_holiday (i - holidays_from) (omega arith) (omega arith)), (λ x y. p (of_ledger (omega arith)), tt)),
      ),
    ),
  )

  head_same : (l l' : List ℕ) → head_length ≤ length l → head_length ≤ length l' → (i : ℕ) → InUse h.members (length h.holidays) i → get_or (fresh_head h l) i 0 ≡ get_or (fresh_head h l') i 0
  unfolding fresh_head written
  head_same l l' s s' i p = written_same parts l l' fits s s' i (in_parts i p)

  head_stays : (l : List ℕ) → head_length ≤ length l → (i : ℕ) → (InUse h.members (length h.holidays) i → ⊥) → get_or (fresh_head h l) i 0 ≡ get_or l i 0
  unfolding fresh_head written
  head_stays l s i p = written_stays parts l fits s i (in_no_part i p)

-- ---- prices and rows

prices_same : (l l' : List ℕ) → prices_length ≤ length l → prices_length ≤ length l' → PricesAlike (fresh_prices l) (fresh_prices l')
unfolding fresh_prices
prices_same l l' s s' =
    let f : List ℕ → List ℕ = λ five. 0 ∷ 1 ∷ most_price ∷ 0 ∷ 0 ∷ [] in
    record {
      long = omega (arith, in_each_length price_width f (λ _ _. refl) contract_count l s);
      long' = omega (arith, in_each_length price_width f (λ _ _. refl) contract_count l' s');
      places = λ c j h b. sym (block_at price_width c j (fresh_prices l) 0 b)
          ∙ ap (λ x. get_or x j 0) (in_each_block_lem price_width f (λ _ _. refl) contract_count l s c h ∙ sym (in_each_block_lem price_width f (λ _ _. refl) contract_count l' s' c h))
          ∙ block_at price_width c j (fresh_prices l') 0 b;
    }

fresh_alike : (h : Header) → SoundHeader h → (t u : Tables) → Long t → Long u → SameButSurplus (fresh h t) (fresh h u)
unfolding fresh
fresh_alike h f t u a b =
    let long = stays_long (fresh_lengths h t f a) a in
    let long' = stays_long (fresh_lengths h u f b) b in
    let whole : Alike h.members (length h.holidays) 0 (fresh h t) (fresh h u) = record {
      head = record {
        long = long.head;
        long' = long'.head;
        size = (fresh_runs h t f a.head).size;
        count = holiday_count_of h f t.head a.head;
        orders = (counts_of h f t.head a.head).3;
        places = head_same h f t.head u.head a.head b.head;
      };
      prices = prices_same t.prices u.prices a.prices b.prices;
      lots = record { long = long.lots; long' = long'.lots; places = λ c m k g. fresh_zero h t f a.lots a.value lots c m k g ∙ sym (fresh_zero h u f b.lots b.value lots c m k g) };
      value = record { long = long.value; long' = long'.value; places = λ c m k g. fresh_zero h t f a.lots a.value value c m k g ∙ sym (fresh_zero h u f b.lots b.value value c m k g) };
      book = λ i j k g. absurd (omega arith);
    } in
    same_of (fresh h t) (fresh h u) whole long long'

-- ---- what is surplus in it
module _ (h : Header) (f : SoundHeader h) where
  rows_stay : (l : List ℤ) → rows_length ≤ length l → (c m : ℕ) → m < most_members → (c < contract_count → h.members ≤ m) → get_or (fresh_rows h.members l) (c * row_width + m) (pos 0) ≡ get_or l (c * row_width + m) (pos 0)
  unfolding fresh_rows
  rows_stay l s c m b g =
      let n = h.members in
      let few = f.members_range.to in
      let zeros : List ℤ = replicate n (pos 0) in
      let z : length zeros ≡ n = length-replicate n (pos 0) in
      let wide : (x : List ℤ) → length x ≡ row_width → length (over 0 zeros x) ≡ row_width = λ x e. over_length 0 zeros x (omega arith) ∙ e in
      le_or_lt contract_count c (λ q. past_blocks (pos 0) row_width (over 0 zeros) wide contract_count l s (c * row_width + m) (omega arith))
      (λ q. let past : n ≤ m = g q in
      let here : length (block row_width c l) ≡ row_width = simp (length-take, length-drop) (omega arith) in
      sym (block_at row_width c m (fresh_rows n l) (pos 0) b)
      ∙ ap (λ x. get_or x m (pos 0)) (in_each_block_lem row_width (over 0 zeros) wide contract_count l s c q)
      ∙ over_outside 0 zeros (block row_width c l) (omega arith) m (pos 0) (λ _. omega arith) ∙ block_at row_width c m l (pos 0) b)

  prices_stay : (l : List ℕ) → prices_length ≤ length l → (i : ℕ) → prices_length ≤ i → get_or (fresh_prices l) i 0 ≡ get_or l i 0
  unfolding fresh_prices
  prices_stay l s i b = past_blocks 0 price_width (λ five. 0 ∷ 1 ∷ most_price ∷ 0 ∷ 0 ∷ []) (λ _ _. refl) contract_count l s i b

  fresh_stays : (t : Tables) → Long t → SurplusUntouched h.members (length h.holidays) t (fresh h t)
  unfolding fresh
  fresh_stays t a = record {
    head = head_stays h f t.head a.head;
    prices = prices_stay t.prices a.prices;
    rows = rows;
    book = λ _ _. refl;
  }
    where
      rows : (x : Column) (c m : ℕ) → m < most_members → (c < contract_count → h.members ≤ m) → row x (fresh h t) c m ≡ row x t c m
      rows lots = rows_stay t.lots a.lots
      rows value = rows_stay t.value a.value

pub making_leaves_surplus : MakingLeavesSurplus
unfolding fresh
making_leaves_surplus header t b s =
    let h = header_of header in
    let is = made header t b s in (
      subst (SurplusUntouched h.members (length h.holidays) t) (sym is) (fresh_stays h (header_gives h (begun header (passed _ b))) t (long_enough t (failed (ledger_short t) s))),
      ap (λ (u : Tables). u.book) is,
    )

-- ---- recovery
pub makes_alike : MakesAlike
makes_alike header t u b s s' =
    subst₂ SameButSurplus (sym (made header t b s)) (sym (made header u b s'))
    (fresh_alike (header_of header) (header_gives (header_of header) (begun header (passed _ b))) t u (long_enough t (failed (ledger_short t) s)) (long_enough u (failed (ledger_short u) s')))

pub recovers : Recovers
recovers header t u calls others b s s' same = replays_alike (make_spec t header).after (make_spec u header).after calls others (makes_alike header t u b s s') same
