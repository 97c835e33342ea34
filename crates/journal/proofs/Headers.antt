-- A header at the front of some bytes, when more bytes come behind them. Assumes nothing.
use Prim.Native.Nat.{ℕ, zero, suc, ◌+◌, ◌*◌, ◌<◌, ◌≤◌}
use mathlib.Core.Bool.{Bool, true, false, not, ◌&&◌}
use mathlib.Core.List.{List, [], ◌++◌, map, append-nil}
use mathlib.Core.Path.{◌≡◌, refl, ap}
use native.Mathlib.Omega.{arith}
use borrow.Author.Tests.{le-leb, leb-true, ltb-false}
use lib.Dec.{leb, ltb}
use lib.ListN.{length, take, get_or, length-append, get_or-append}
use lib.Seq.{take-append-le}
use Rattle.arith.specs.Lists.{from}
use Rattle.arith.proofs.Tests.{true_or, and_left, and_right}
use Rattle.rules.specs.Answers.{Outcome, reply_of}
use Rattle.rules.specs.Header.{u16_at, u32_at, u16s_at, u32s_at, same_bytes, letters_and_version, header_length, header_of, header_sound, begins_with_header}
use Rattle.rules.specs.Ledger.{Tables, ledger_short}
use Rattle.rules.specs.Refusals.{make_spec}

-- Numbers that the bytes hold.
map_alike : {B : Type 0} (f g : ℕ → B) (a n : ℕ) → ((j : ℕ) → a ≤ j → j < a + n → f j ≡ g j) → map f (from a n) ≡ map g (from a n)
unfolding from
map_alike f g a zero e = refl
map_alike f g a (suc n) e = rw (e a (omega arith) (omega arith), map_alike f g (suc a) n (λ j h k. e j (omega arith) (omega arith))) refl

module _ (s more : List ℕ) where
  pub byte : (i : ℕ) → i < length s → get_or (s ++ more) i 0 ≡ get_or s i 0
  byte i h = get_or-append s more 0 i h

  pub u16_more : (i : ℕ) → i + 2 ≤ length s → u16_at (s ++ more) i ≡ u16_at s i
  unfolding u16_at
  u16_more i h = rw (byte i (omega arith), byte (i + 1) (omega arith)) refl

  pub u32_more : (i : ℕ) → i + 4 ≤ length s → u32_at (s ++ more) i ≡ u32_at s i
  unfolding u32_at
  u32_more i h = rw (u16_more i (omega arith), u16_more (i + 2) (omega arith)) refl

  u16s_more : (i n : ℕ) → i + 2 * n ≤ length s → u16s_at (s ++ more) i n ≡ u16s_at s i n
  unfolding u16s_at
  u16s_more i n h = map_alike _ _ 0 n (λ j a b. u16_more (i + 2 * j) (omega arith))

  u32s_more : (i n : ℕ) → i + 4 * n ≤ length s → u32s_at (s ++ more) i n ≡ u32s_at s i n
  unfolding u32s_at
  u32s_more i n h = map_alike _ _ 0 n (λ j a b. u32_more (i + 4 * j) (omega arith))

-- The whole header.
at_least_11 : (s : List ℕ) → 11 ≤ header_length s
unfolding header_length
at_least_11 s = omega arith

module _ (s more : List ℕ) (fits : header_length s ≤ length s) where
  pub length_more : header_length (s ++ more) ≡ header_length s
  unfolding header_length
  length_more = let e = at_least_11 s in rw (byte s more 9 (omega (arith, fits)), byte s more 10 (omega (arith, fits))) refl

  fields : 11 + 2 * get_or s 10 0 + 4 * get_or s 9 0 ≤ length s
  unfolding header_length
  fields = fits

  pub header_more : header_of (s ++ more) ≡ header_of s
  unfolding header_of
  header_more =
      let f = fields in
      rw (
        byte s more 9 (omega arith),
        byte s more 10 (omega arith),
        u16_more s more 5 (omega arith),
        u16_more s more 7 (omega arith),
        u16s_more s more 11 (get_or s 10 0) (omega arith),
        u32s_more s more (11 + 2 * get_or s 10 0) (get_or s 9 0) (omega arith),
      ) refl

  begins_more : begins_with_header (s ++ more) ≡ begins_with_header s
  unfolding begins_with_header
  begins_more =
      let l = length-append s more in
      let e = at_least_11 s in
      rw (
        header_more,
        length_more,
        take-append-le 5 s more (omega arith),
        le-leb 11 (length (s ++ more)) (omega arith),
        le-leb 11 (length s) (omega arith),
        le-leb (header_length s) (length (s ++ more)) (omega arith),
        le-leb (header_length s) (length s) fits,
      ) refl

  made_more : (t : Tables) → make_spec t (s ++ more) ≡ make_spec t s
  unfolding make_spec
  made_more t = rw (begins_more, header_more) refl

-- Bytes that hold a whole header, or are the last.
module _ (s : List ℕ) (last : Bool) (whole : not last && ltb (length s) (header_length s) ≡ false) (more : List ℕ) (ends : last ≡ true → more ≡ []) where
  whole_fits : last ≡ false → header_length s ≤ length s
  whole_fits e = ltb-false (length s) (header_length s) (rw e at whole)

  pub same_made : (t : Tables) → make_spec t (s ++ more) ≡ make_spec t s
  same_made t = true_or last (λ e. rw (ends e, append-nil s) refl) (λ e. made_more s more (whole_fits e) t)

  pub same_length : header_length (s ++ more) ≡ header_length s
  same_length = true_or last (λ e. rw (ends e, append-nil s) refl) (λ e. length_more s more (whole_fits e))

-- A ledger is made only of a header that lies within the bytes.
begins_inside : (s : List ℕ) → begins_with_header s ≡ true → header_length s ≤ length s
unfolding begins_with_header
begins_inside s e =
    let before = leb 11 (length s) && same_bytes (take 5 s) letters_and_version in
    let inside = leb (header_length s) (length s) in
    leb-true (header_length s) (length s) (and_right before inside (and_left (before && inside) (header_sound (header_of s)) e))

pub made_inside : (t : Tables) (s : List ℕ) (o : Outcome Tables) → make_spec t s ≡ o → (reply_of o.answer).number ≡ 0 → header_length s ≤ length s
unfolding make_spec
made_inside t s o e z =
    true_or (ledger_short t)
    (λ f. let g : (reply_of (make_spec t s).answer).number ≡ 1 = rw f refl in let q = ap (λ (x : Outcome Tables). (reply_of x.answer).number) e in absurd (omega arith))
    (λ f. true_or (begins_with_header s) (begins_inside s)
    (λ b. let g : (reply_of (make_spec t s).answer).number ≡ 2 = rw (f, b) refl in let q = ap (λ (x : Outcome Tables). (reply_of x.answer).number) e in absurd (omega arith)))
