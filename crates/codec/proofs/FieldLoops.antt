-- One more field of a record read, and one more written. Assumes nothing.
use Prim.Native.Nat.{ℕ, zero, suc, ◌+◌, ◌-◌, ◌^◌, ◌≤◌, ◌<◌}
use mathlib.Core.List.{List, [], ◌∷◌, ◌++◌}
use mathlib.Core.Path.{◌≡◌, refl, sym, ap, ◌∙◌}
use native.Mathlib.Numerals.{add-one}
use native.Mathlib.Omega.{arith}
use lib.ListN.{length, get_or, set, take, drop, replicate, length-append, take-append-drop, get_or-append}
use lib.Seq.{take-suc, take_all, length-take-le, get_or-drop}
use Rattle.arith.specs.Columns.{padded}
use Rattle.arith.specs.Lists.{over}
use Rattle.arith.proofs.Beside.{over_next}
use Rattle.arith.proofs.Padded.{padded_set}
use Rattle.rules.specs.declared.event.Event.{Event}
use Rattle.rules.specs.declared.field.Field.{Field}
use Rattle.rules.specs.declared.field.Field.TheVariants.{Kind}
use Rattle.rules.specs.Fields.{width_of, widths, kind_fields, number_at, number_bytes, numbers_at, bytes_by}
use Rattle.rules.specs.Records.{kind_number, event_numbers}
use Rattle.record_kinds.proofs.EachKind.{described}
use Rattle.codec.specs.Fits.{EventFits}
use Rattle.codec.proofs.FieldBytes.{some_width, fits_at, length_numbers, length_bytes, bytes_enough, widths_append, numbers_append, bytes_more, widths_first}

-- The fields stand from place 1 on; field i, f, is w wide and stands at a place.
module _ (fs : List Field) (i : ℕ) (h : i < length fs) {f : Field} {w place : ℕ} (e : f ≡ get_or fs i Kind) (u : w ≡ width_of f) (a : place ≡ 1 + widths (take i fs)) where
  more : take (i + 1) fs ≡ take i fs ++ (f ∷ [])
  more = rw (add-one i, e) (take-suc fs i Kind h)

  pub place_next : place + w ≡ 1 + widths (take (i + 1) fs)
  unfolding widths
  place_next = let grown = ap widths more ∙ widths_append (take i fs) (f ∷ []) in omega arith

  pub field_inside : (n : ℕ) → widths fs ≤ n - 1 → place + w ≤ n
  field_inside n r = omega (arith, place_next, widths_first fs (i + 1), some_width f)

  pub numbers_next : (k : ℕ) (s : List ℕ) (n : ℕ) {v : ℕ} {numbers : List ℕ} → length fs < n → v ≡ number_at s place w → numbers ≡ padded n (k ∷ numbers_at s 1 (take i fs))
      → set numbers (1 + i) v ≡ padded n (k ∷ numbers_at s 1 (take (i + 1) fs))
  unfolding numbers_at
  numbers_next k s n {v} {numbers} room q c =
      let before = k ∷ numbers_at s 1 (take i fs) in
      let sized : length before ≡ 1 + i = omega (arith, length_numbers s 1 (take i fs), length-take-le i fs (omega arith)) in
      let last : numbers_at s (1 + widths (take i fs)) (f ∷ []) ≡ v ∷ [] = rw (← a, ← u, ← q) refl in
      let grown : k ∷ numbers_at s 1 (take (i + 1) fs) ≡ before ++ (v ∷ []) =
      ap (λ x. k ∷ x) (ap (numbers_at s 1) more ∙ (numbers_append s 1 (take i fs) (f ∷ []) ∙ ap (λ x. numbers_at s 1 (take i fs) ++ x) last)) in
      rw (grown, c) (ap (λ j. set (padded n before) j v) (sym sized) ∙ padded_set n before v (omega arith))

  pub put_next : (ns : List ℕ) → i < length ns → {v : ℕ} (l m k : List ℕ) → v ≡ get_or ns i 0 → m ≡ over 1 (bytes_by (take i fs) ns) l → k ≡ over place (number_bytes w v) m → place ≤ length l
      → k ≡ over 1 (bytes_by (take (i + 1) fs) ns) l
  put_next ns j {v} l m k q p r room =
      let short = length-take-le i fs (omega arith) in
      let sized : length (bytes_by (take i fs) ns) ≡ widths (take i fs) = length_bytes (take i fs) ns (omega arith) in
      let grown : bytes_by (take (i + 1) fs) ns ≡ bytes_by (take i fs) ns ++ number_bytes w v = rw (add-one i, u, e, q) (bytes_more fs ns i h j) in
      rw grown (over_next 1 place (bytes_by (take i fs) ns) (number_bytes w v) l m k p r (omega arith) (omega arith))

-- ---- the numbers of an event, kind first
module _ (e : Event) (numbers l : List ℕ) (q : numbers ≡ over 0 (kind_number e ∷ event_numbers e) l) {kind : ℕ} (k : kind ≡ kind_number e) where
  abbrev fields : List Field
  fields = kind_fields (kind_number e)

  abbrev past : List ℕ
  past = drop (0 + length (kind_number e ∷ event_numbers e)) l

  after_kind : drop 1 numbers ≡ event_numbers e ++ past
  unfolding over
  after_kind = ap (drop 1) q

  pub enough : length (kind_fields kind) ≤ length (drop 1 numbers)
  enough = rw (k, after_kind, length-append) (omega (arith, (described e).counted))

  pub number_fits : EventFits e → (i : ℕ) {f : Field} {w : ℕ} → i < length (kind_fields kind) → f ≡ get_or (kind_fields kind) i Kind → w ≡ width_of f → get_or numbers (1 + i) 0 < 256 ^ w
  number_fits fits i h at_i u =
      let here : i < length fields = rw k at h in
      let number : get_or numbers (1 + i) 0 ≡ get_or (event_numbers e) i 0 =
      sym (get_or-drop 1 numbers i 0) ∙ (ap (λ x. get_or x i 0) after_kind ∙ get_or-append (event_numbers e) past 0 i (omega (arith, (described e).counted))) in
      rw (number, u, at_i, k) (fits_at fields (event_numbers e) fits i here)

  pub fields_put : (i : ℕ) (out : List ℕ) {m : List ℕ} → length (kind_fields kind) ≤ i → m ≡ over 1 (bytes_by (take i (kind_fields kind)) (drop 1 numbers)) out → m ≡ over 1 (bytes_by fields (event_numbers e)) out
  fields_put i out h p =
      p ∙ ap (λ x. over 1 x out)
      (rw (take_all i (kind_fields kind) h, k, after_kind) (bytes_enough fields (event_numbers e) past (omega (arith, (described e).counted))))

pub none_put : (ns l : List ℕ) → l ≡ over 1 (bytes_by [] ns) l
unfolding bytes_by over
none_put ns l = sym (take-append-drop 1 l)

-- Zeros past numbers change none of them.
zeros : (n i : ℕ) → get_or {A = ℕ} (replicate n 0) i 0 ≡ 0
zeros zero i = refl
zeros (suc n) zero = refl
zeros (suc n) (suc i) = zeros n i

pub with_zeros : (l : List ℕ) (n i : ℕ) → get_or (l ++ replicate n 0) i 0 ≡ get_or l i 0
with_zeros [] n i = zeros n i
with_zeros (x ∷ l) n zero = refl
with_zeros (x ∷ l) n (suc i) = with_zeros l n i
