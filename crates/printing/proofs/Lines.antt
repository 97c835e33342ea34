-- A line written field by field, and deal lines one after the other. Assumes nothing.
use Prim.Native.Nat.{ℕ, ◌+◌, ◌*◌, ◌≤◌, ◌<◌, ◌^◌}
use mathlib.Core.List.{List, [], ◌∷◌, ◌++◌, map, flat_map, append-nil}
use mathlib.Core.Path.{◌≡◌, refl, ap, ◌∙◌}
use native.Mathlib.Nat.{zero-add, add-zero}
use native.Mathlib.Numerals.{add-one}
use native.Mathlib.Omega.{arith}
use lib.IntN.{ℤ, pos, nat_abs}
use lib.Signed.{mag}
use lib.ListN.{length, take, get_or, length-append, length-map}
use lib.Seq.{take-suc, take_all, length-take-le}
use mir.Syntax.{w64}
use mir.Val.{SFits}
use mir.Facts.{to_z-of_z}
use Rattle.arith.specs.Lists.{from}
use Rattle.arith.proofs.Signed.{rd, back_mag}
use Rattle.arith.proofs.Appends.{from_more, map_append, flat_append}
use Rattle.rules.specs.Journal.{deal_text}
use Rattle.rules.specs.Ledger.{line_at, first_lines}
use Rattle.rules.specs.Text.{space, newline, decimal, signed_decimal, line_text}
use Rattle.text.specs.Wrote.{Wrote}
use Rattle.text.proofs.Writing.{then, wrote_none}

-- ---- one line
abbrev in_fields : List (List ℕ) → List ℕ
in_fields fields = flat_map (λ field. space ∷ field) fields

-- The letter and these fields stand, and each field took at most 21 places.
pub record Begun (a letter : ℕ) (fields : List (List ℕ)) (l m : List ℕ) (i : ℕ) : Type 0 where
  pub wrote : Wrote a (letter ∷ in_fields fields) l m i
  pub short : i ≤ a + 1 + 21 * length fields

pub begun : {a letter i : ℕ} {l m : List ℕ} → Wrote a (letter ∷ []) l m i → Begun a letter [] l m i
unfolding flat_map
begun w = record { wrote = w; short = omega (arith, w.after) }

one_more : (letter : ℕ) (fields : List (List ℕ)) (f : List ℕ) → (letter ∷ in_fields fields) ++ (space ∷ f) ≡ letter ∷ in_fields (fields ++ (f ∷ []))
unfolding flat_map
one_more letter fields f = ap (λ x. letter ∷ x) (rw (flat_append (λ field. space ∷ field) fields (f ∷ [])) (rw (append-nil (space ∷ f)) refl))

-- A line of at most four fields has room.
module _ {a letter i j : ℕ} {l m k : List ℕ} (room : a + 86 ≤ length l) where
  pub field : {fields : List (List ℕ)} {f : List ℕ} → length fields < 4 → Begun a letter fields l m i → Wrote i (space ∷ f) m k j × (j ≤ i + 21)
      → Begun a letter (fields ++ (f ∷ [])) l k j
  field {fields = fields} {f = f} few b w =
      let fits : a + length (letter ∷ in_fields fields) ≤ length l = omega (arith, b.wrote.after, b.short) in
      record { wrote = rw (one_more letter fields f) at (then b.wrote w.0 fits); short = rw (length-append fields (f ∷ [])) (omega (arith, b.short, w.1)) }

  pub ended : {fields : List (List ℕ)} → length fields ≤ 4 → Begun a letter fields l m i → Wrote i (newline ∷ []) m k j → Wrote a (line_text letter fields) l k j × (j ≤ a + 86)
  unfolding line_text
  ended {fields = fields} few b w =
      let fits : a + length (letter ∷ in_fields fields) ≤ length l = omega (arith, b.wrote.after, b.short) in
      (then b.wrote w fits, omega (arith, w.after, b.short))

-- ---- fields of a slice, one after the other
taken_length : (n : ℕ) (fields : List ℕ) → n ≤ length fields → length (map decimal (take n fields)) ≡ n
taken_length n fields h = length-map (take n fields) decimal ∙ length-take-le n fields h

module _ {a letter i : ℕ} {l m : List ℕ} (room : a + 86 ≤ length l) (n : ℕ) (fields : List ℕ) (few : length fields ≤ 4)
    (begin : Begun a letter (map decimal (take n fields)) l m i) where
  pub field_room : n < length fields → i + 21 ≤ length l
  field_room h = let all = taken_length n fields (omega arith) in let short = rw all at begin.short in omega arith

  pub next_field : {k : List ℕ} {j : ℕ} → n < length fields → Wrote i (space ∷ decimal (get_or fields n 0)) m k j × (j ≤ i + 21)
      → Begun a letter (map decimal (take (n + 1) fields)) l k j
  next_field h w =
      rw (add-one n, take-suc fields n 0 h, map_append decimal (take n fields) (get_or fields n 0 ∷ []))
      (field room (rw (taken_length n fields (omega arith)) (omega arith)) begin w)

  pub end_room : n ≤ length fields → i < length l
  end_room h = let all = taken_length n fields h in let short = rw all at begin.short in omega arith

  pub all_fields : {k : List ℕ} {j : ℕ} → n ≤ length fields → length fields ≤ n → Wrote i (newline ∷ []) m k j
      → Wrote a (line_text letter (map decimal fields)) l k j × (j ≤ a + 86)
  all_fields h all w =
      let whole : take n fields ≡ fields = take_all n fields all in
      ended room (rw (length-map fields decimal) few) (rw whole at begin) w

-- A signed field, as its writer was handed it.
pub signed_field : (z : ℤ) → SFits w64 z → {a b r : ℕ} {l m : List ℕ}
    → Wrote a (space ∷ signed_decimal (rd z)) l m r × (r ≤ b) → Wrote a (space ∷ signed_decimal z) l m r × (r ≤ b)
signed_field z f w = rw (to_z-of_z f) at w

-- ---- deal lines
flat_more : (n : ℕ) (l : List ℤ) → flat_map deal_text (first_lines (n + 1) l) ≡ flat_map deal_text (first_lines n l) ++ deal_text (line_at l n)
unfolding first_lines flat_map
flat_more n l =
    rw (add-one n, from_more 0 n, zero-add n, map_append (line_at l) (from 0 n) (n ∷ []))
    (flat_append deal_text (map (line_at l) (from 0 n)) (line_at l n ∷ []) ∙ rw (append-nil (deal_text (line_at l n))) refl)

-- A line as it was read from the table and handed to its writer.
module _ (d : List ℤ) (i : ℕ) where
  abbrev place : ℕ → ℤ
  place j = get_or d (i * 4 + j) (pos 0)

  pub line_read : mag (place 0) < 2 ^ 63 → mag (place 1) < 2 ^ 63 → mag (place 2) < 2 ^ 63 → mag (place 3) < 2 ^ 63 → {member contract price : ℕ}
      → member ≡ nat_abs (rd (place 0)) → contract ≡ nat_abs (rd (place 1)) → price ≡ nat_abs (rd (place 3))
      → {a b r : ℕ} {l m : List ℕ}
      → Wrote a (deal_text (record { member = member; contract = contract; lots = rd (place 2); price = price })) l m r × (r ≤ b)
      → Wrote a (deal_text (line_at d i)) l m r × (r ≤ b)
  line_read f0 f1 f2 f3 e f g w =
      rw (e, f, g, back_mag (place 0) f0, back_mag (place 1) f1, back_mag (place 2) f2, back_mag (place 3) f3, add-zero (i * 4)) at w

pub deals_none : (a : ℕ) (d : List ℤ) (l : List ℕ) → Wrote a (flat_map deal_text (first_lines 0 d)) l l a × (a ≤ a + 86 * 0)
unfolding first_lines flat_map from
deals_none a d l = (wrote_none a l, omega arith)

pub deals_next : (i : ℕ) (d : List ℤ) {a b c : ℕ} {l m k : List ℕ} → a + 86 * i ≤ length l
    → Wrote a (flat_map deal_text (first_lines i d)) l m b × (b ≤ a + 86 * i)
    → Wrote b (deal_text (line_at d i)) m k c × (c ≤ b + 86)
    → Wrote a (flat_map deal_text (first_lines (i + 1) d)) l k c × (c ≤ a + 86 * (i + 1))
deals_next i d h p q = (rw (flat_more i d) (then p.0 q.0 (omega (arith, p.0.after, p.1))), omega (arith, p.1, q.1))

pub deals_all : (i n : ℕ) (d : List ℤ) {a b : ℕ} {l m : List ℕ} → i ≤ n → n ≤ i
    → Wrote a (flat_map deal_text (first_lines i d)) l m b × (b ≤ a + 86 * i) → Wrote a (flat_map deal_text (first_lines n d)) l m b × (b ≤ a + 86 * n)
deals_all i n d h k w = let e : i ≡ n = omega arith in rw e at w
