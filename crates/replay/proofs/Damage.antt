-- Two ledgers that agree but for surplus are both damaged or both not. Assumes nothing.
use Prim.Native.Nat.{ℕ, zero, suc, ◌+◌, ◌*◌, ◌≤◌, ◌<◌}
use mathlib.Core.Path.{◌≡◌, refl, sym, ap, subst₂, ◌∙◌}
use mathlib.Core.Bool.{Bool, true, false, not, ◌&&◌}
use mathlib.Core.List.{List}
use native.Mathlib.Omega.{arith}
use lib.Dec.{leb}
use lib.ListN.{length, get_or, take, length-take, length-drop}
use lib.Seq.{get_or-take, ext_get_or, take_all}
use lib.IntN.{ℤ, pos, nat_abs}
use borrow.Author.Tests.{not-false}
use Rattle.arith.specs.Lists.{every, from}
use Rattle.arith.proofs.Alls.{all_hold, hold_all}
use Rattle.arith.proofs.EachBlock.{block, block_at, block_passes, every_block_lem}
use Rattle.arith.proofs.Tests.{true_or, never, and_left, and_right, or_left, or_right}
use Rattle.rules.specs.declared.order.Order.{Order}
use Rattle.rules.specs.Ranges.{contract_count, most_holidays, most_price}
use Rattle.rules.specs.Ledger.{Tables, members, holiday_count, lots_run, order_count, price_width, row_width, rows_length, side_at, orders, ledger_short, lines_short}
use Rattle.rules.specs.Records.{side_sound}
use Rattle.rules.specs.Refusals.{every_row, rows_sound, contract_prices_sound, prices_sound, member_sound, head_sound, order_sound, sides_sound, book_sound, damaged, ledger_unsound, unsound}
use Rattle.rules.specs.Accounts.{Column, lots, value}
use Rattle.rules.proofs.SoundTables.{Long, long_enough, not_short, undamaged}
use Rattle.replay.specs.Surplus.{InUse, SameButSurplus}
use Rattle.replay.proofs.Same.{same_members, same_count, same_day, same_time, same_accepted, same_run, same_order_count, same_limit, same_mark, same_submits, same_side_lem, same_orders, same_calendar}

-- the other way round
pub same_back : {t u : Tables} → SameButSurplus t u → SameButSurplus u t
same_back {t} {u} s = record {
  short = sym s.short;
  head = λ i p. sym (s.head i (subst₂ (λ n k. InUse n k i) (sym (same_members t u s)) (sym (same_count t u s)) p));
  prices = λ c j h k. sym (s.prices c j h k);
  rows = λ x c m h k. sym (s.rows x c m h (omega (arith, same_members t u s)));
  book = λ i j h k. sym (s.book i j (omega (arith, same_order_count t u s)) k);
}

every_from_same : (p q : ℕ → Bool) (a n : ℕ) → ((i : ℕ) → a ≤ i → i < a + n → p i ≡ q i) → every p (from a n) ≡ every q (from a n)
unfolding every from
every_from_same p q a zero e = refl
every_from_same p q a (suc n) e = λ s. e a (omega arith) (omega arith) s && every_from_same p q (suc a) n (λ i h k. e i (omega arith) (omega arith)) s

-- blocks of which the first n places are the same
block_same : {A : Type 0} (z : A) (w n c k : ℕ) (l l' : List A) → k * w ≤ length l → k * w ≤ length l' → c < k → (c + 1) * w ≤ k * w
    → ((m : ℕ) → m < w → m < n → get_or l (c * w + m) z ≡ get_or l' (c * w + m) z) → take n (block w c l) ≡ take n (block w c l')
block_same z w n c k l l' s s' h r e =
    ext_get_or z (take n (block w c l)) (take n (block w c l')) (simp (length-take, length-drop) (omega arith))
    (λ m q. let q' = simp (length-take, length-drop) at q in
    let a : m < n = omega (arith, q') in
    let b : m < w = omega (arith, q') in
    get_or-take n (block w c l) m z a ∙ block_at w c m l z b ∙ e m b a ∙ sym (block_at w c m l' z b) ∙ sym (get_or-take n (block w c l') m z a))

module _ (t u : Tables) (s : SameButSurplus t u) (long : Long t) (long' : Long u) where
  same_head : holiday_count t ≤ most_holidays → head_sound t ≡ head_sound u
  unfolding head_sound member_sound
  same_head few =
      let members_same : every (member_sound t) (from 0 (members t)) ≡ every (member_sound u) (from 0 (members u)) =
      every_from_same (member_sound t) (member_sound u) 0 (members t) (λ m _ h. rw (same_limit t u s m (omega arith), same_mark t u s m (omega arith), same_submits t u s m (omega arith)))
      ∙ ap (λ n. every (member_sound u) (from 0 n)) (same_members t u s) in
      rw (members_same, same_calendar t u s few long.head long'.head, same_count t u s, same_members t u s, same_day t u s, same_time t u s, same_accepted t u s, same_run t u s, same_order_count t u s)

  same_prices : prices_sound t ≡ true → prices_sound u ≡ true
  unfolding prices_sound
  same_prices e =
      every_block_lem price_width (contract_prices_sound (lots_run u)) contract_count u.prices
      (λ c h. sym (ap (contract_prices_sound (lots_run u)) (whole c t.prices) ∙ ap (contract_prices_sound (lots_run u)) (block_same 0 price_width price_width c contract_count t.prices u.prices long.prices long'.prices h (omega arith) (λ m b _. s.prices c m h b)) ∙ ap (contract_prices_sound (lots_run u)) (sym (whole c u.prices)))
      ∙ ap (λ r. contract_prices_sound r (block price_width c t.prices)) (sym (same_run t u s)) ∙ block_passes price_width (contract_prices_sound (lots_run t)) contract_count t.prices e c h)
    where
      whole : (c : ℕ) (l : List ℕ) → block price_width c l ≡ take price_width (block price_width c l)
      whole c l = sym (take_all price_width (block price_width c l) (simp length-take (omega arith)))

  same_rows : (p : ℤ → Bool) (x : Column) (l l' : List ℤ) → rows_length ≤ length l → rows_length ≤ length l' → ((c m : ℕ) → c < contract_count → m < members t → get_or l (c * row_width + m) (pos 0) ≡ get_or l' (c * row_width + m) (pos 0))
      → every_row p (members t) l ≡ true → every_row p (members u) l' ≡ true
  unfolding every_row
  same_rows p x l l' a b f e =
      every_block_lem row_width (λ rows. every p (take (members u) rows)) contract_count l'
      (λ c h. ap (λ n. every p (take n (block row_width c l'))) (sym (same_members t u s))
      ∙ ap (every p) (sym (block_same (pos 0) row_width (members t) c contract_count l l' a b h (omega arith) (λ m _ q. f c m h q)))
      ∙ block_passes row_width (λ rows. every p (take (members t) rows)) contract_count l e c h)

  same_rows_sound : rows_sound t ≡ true → rows_sound u ≡ true
  unfolding rows_sound
  same_rows_sound e =
      let run = same_run t u s in
      let a : every_row (λ z. leb (nat_abs z) (lots_run t)) (members t) t.lots ≡ true = and_left _ _ e in
      let b : every_row (λ z. leb (nat_abs z) (most_price * lots_run t)) (members t) t.value ≡ true = and_right (every_row (λ z. leb (nat_abs z) (lots_run t)) (members t) t.lots) _ e in
      rw (← run)
      (rw (same_rows (λ z. leb (nat_abs z) (lots_run t)) lots t.lots u.lots long.lots long'.lots (λ c m h q. s.rows lots c m h q) a)
      (same_rows (λ z. leb (nat_abs z) (most_price * lots_run t)) value t.value u.value long.value long'.value (λ c m h q. s.rows value c m h q) b))

  order_same : holiday_count t ≤ most_holidays → (o : Order) → order_sound t o ≡ order_sound u o
  unfolding order_sound
  order_same few o = rw (same_calendar t u s few long.head long'.head, same_accepted t u s, same_members t u s)

  same_book : holiday_count t ≤ most_holidays → book_sound t ≡ book_sound u
  unfolding book_sound sides_sound
  same_book few =
      let sides_same : every (λ i. side_sound (side_at t.book i)) (from 0 (order_count t)) ≡ every (λ i. side_sound (side_at u.book i)) (from 0 (order_count u)) =
      every_from_same (λ i. side_sound (side_at t.book i)) (λ i. side_sound (side_at u.book i)) 0 (order_count t) (λ i _ h. ap side_sound (same_side_lem t u s i (omega arith)))
      ∙ ap (λ n. every (λ i. side_sound (side_at u.book i)) (from 0 n)) (same_order_count t u s) in
      let each_same : every (order_sound t) (orders u) ≡ every (order_sound u) (orders u) = λ r. every (λ o. order_same few o r) (orders u) in
      rw (sides_same, same_orders t u s, each_same)

  -- what the one is not, the other is not
  not_damaged : damaged t ≡ false → holiday_count t ≤ most_holidays → damaged u ≡ false
  unfolding damaged
  not_damaged e few =
      let a = all_hold _ (not-false _ e) in
      ap not (hold_all _ (sym (same_head few) ∙ a.0, (same_prices a.1.0, (same_rows_sound a.1.1.0, (sym (same_book few) ∙ a.1.1.1.0, tt)))))

still_sound : (t u : Tables) → SameButSurplus t u → lines_short t ≡ lines_short u → unsound t ≡ false → unsound u ≡ false
unfolding unsound ledger_unsound
still_sound t u s l e =
    let a = undamaged t e in
    let short = not_short t a.long in
    let short' = sym s.short ∙ short in
    let whole : damaged t ≡ false = or_right (ledger_short t) (damaged t) (or_left (ledger_unsound t) (lines_short t) e) in
    rw (short', not_damaged t u s a.long (long_enough u short') whole a.head.holidays≤, sym l ∙ or_right (ledger_unsound t) (lines_short t) e)

pub same_unsound : (t u : Tables) → SameButSurplus t u → lines_short t ≡ lines_short u → unsound t ≡ unsound u
same_unsound t u s l =
    true_or (unsound t)
    (λ e. true_or (unsound u) (λ f. e ∙ sym f) (λ f. never (sym e ∙ still_sound u t (same_back s) (sym l) f)))
    (λ e. e ∙ sym (still_sound t u s l e))
