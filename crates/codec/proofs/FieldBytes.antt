-- Numbers written field by field and read back, and read and written again, whatever the fields are. Assumes nothing.
use Prim.Native.Nat.{ℕ, zero, suc, ◌+◌, ◌^◌, ◌≤◌, ◌<◌}
use mathlib.Core.List.{List, [], ◌∷◌, ◌++◌, append_assoc, append-nil}
use mathlib.Core.Path.{◌≡◌, refl, sym, ap, ◌∙◌}
use native.Mathlib.Nat.{zero-add, add-zero, add_assoc}
use native.Mathlib.Omega.{arith}
use lib.ListN.{length, get_or, take, drop, length-append, take-append-drop}
use lib.Seq.{get_or-append-add}
use Rattle.rules.specs.declared.field.Field.{Field}
use Rattle.rules.specs.declared.field.Field.TheVariants.{LetterV, LetterJ, LetterR, Version, FirstYear, StartDay, Members, HolidayCount, Holiday, Limit}
use Rattle.rules.specs.declared.field.Field.TheVariants.{Kind, Time, Member, Contract, Side, OrderKind, Price, Lots, Order, Low, High, Legs, Ratio}
use Rattle.rules.specs.Fields.{width_of, widths, number_at, number_bytes, numbers_at, bytes_by}
use Rattle.big_endian.specs.Width.{Width, one, two, four}
use Rattle.big_endian.proofs.Numbers.{u16_wide, u32_wide, u16_back, u32_back, u8_again, u16_again, u32_again}
use Rattle.codec.specs.Fits.{Fits}

-- ---- one number
-- A field is as wide as a u8, a u16 or a u32.
pub width : (f : Field) → Width (width_of f)
width LetterV = one
width LetterJ = one
width LetterR = one
width Version = two
width FirstYear = two
width StartDay = two
width Members = one
width HolidayCount = one
width Holiday = two
width Limit = four
width Kind = one
width Time = four
width Member = one
width Contract = one
width Side = one
width OrderKind = one
width Price = four
width Lots = two
width Order = four
width Low = four
width High = four
width Legs = one
width Ratio = two

pub some_width : (f : Field) → 1 ≤ width_of f
some_width f = go (width f)
  where
    go : {w : ℕ} → Width w → 1 ≤ w
    go one = omega arith
    go two = omega arith
    go four = omega arith

pub some_widths : (fs : List Field) → 0 < length fs → 1 ≤ widths fs
unfolding widths
some_widths [] h = absurd (omega arith)
some_widths (f ∷ fs) h = omega (arith, some_width f)

number_wide : {w : ℕ} → Width w → (v : ℕ) → length (number_bytes w v) ≡ w
unfolding number_bytes
number_wide one v = refl
number_wide two v = u16_wide v
number_wide four v = u32_wide v

number_back : {w : ℕ} → Width w → (p q : List ℕ) (i : ℕ) → i ≡ length p → (v : ℕ) → v < 256 ^ w → number_at (p ++ (number_bytes w v ++ q)) i w ≡ v
unfolding number_at number_bytes
number_back one p q i e v h = rw (e, ← add-zero (length p)) (get_or-append-add p (v ∷ q) 0 0)
number_back two p q i e v h = u16_back p q i e v h
number_back four p q i e v h = u32_back p q i e v h

number_again : {w : ℕ} → Width w → (s : List ℕ) → ((i : ℕ) → get_or s i 0 < 256) → (i : ℕ) → i + w ≤ length s → number_bytes w (number_at s i w) ++ drop (i + w) s ≡ drop i s
unfolding number_at number_bytes
number_again one s small i h = u8_again s small i (omega arith)
number_again two s small i h = u16_again s small i h
number_again four s small i h = u32_again s small i h

-- ---- one field after the other
pub fits_at : (fs : List Field) (ns : List ℕ) → Fits fs ns → (i : ℕ) → i < length fs → get_or ns i 0 < 256 ^ width_of (get_or fs i Kind)
unfolding Fits
fits_at [] ns h i k = absurd (omega arith)
fits_at (f ∷ fs) [] h i k = absurd h
fits_at (f ∷ fs) (n ∷ ns) h zero k = h.0
fits_at (f ∷ fs) (n ∷ ns) h (suc i) k = fits_at fs ns h.1 i (omega arith)

pub length_numbers : (s : List ℕ) (i : ℕ) (fs : List Field) → length (numbers_at s i fs) ≡ length fs
unfolding numbers_at
length_numbers s i [] = refl
length_numbers s i (f ∷ fs) = ap suc (length_numbers s (i + width_of f) fs)

pub length_bytes : (fs : List Field) (ns : List ℕ) → length fs ≤ length ns → length (bytes_by fs ns) ≡ widths fs
unfolding bytes_by widths
length_bytes [] ns h = refl
length_bytes (f ∷ fs) [] h = absurd (omega arith)
length_bytes (f ∷ fs) (n ∷ ns) h =
    length-append (number_bytes (width_of f) n) (bytes_by fs ns) ∙ (λ j. number_wide (width f) n j + length_bytes fs ns (omega arith) j)

-- Numbers past the last field are not written.
pub bytes_enough : (fs : List Field) (ns rest : List ℕ) → length fs ≤ length ns → bytes_by fs (ns ++ rest) ≡ bytes_by fs ns
unfolding bytes_by
bytes_enough [] ns rest h = refl
bytes_enough (f ∷ fs) [] rest h = absurd (omega arith)
bytes_enough (f ∷ fs) (n ∷ ns) rest h = ap (λ x. number_bytes (width_of f) n ++ x) (bytes_enough fs ns rest (omega arith))

pub numbers_back : (fs : List Field) (ns p q : List ℕ) (i : ℕ) → Fits fs ns → i ≡ length p → numbers_at (p ++ (bytes_by fs ns ++ q)) i fs ≡ ns
unfolding Fits numbers_at bytes_by
numbers_back [] [] p q i h e = refl
numbers_back [] (n ∷ ns) p q i h e = absurd h
numbers_back (f ∷ fs) [] p q i h e = absurd h
numbers_back (f ∷ fs) (n ∷ ns) p q i h e =
    let w = width_of f in
    let b = number_bytes w n in
    let rest = bytes_by fs ns ++ q in
    let shape : p ++ ((b ++ bytes_by fs ns) ++ q) ≡ p ++ (b ++ rest) = ap (λ x. p ++ x) (append_assoc b (bytes_by fs ns) q) in
    let past : i + w ≡ length (p ++ b) = rw e (sym (length-append p b ∙ ap (λ k. length p + k) (number_wide (width f) n))) in
    let first : number_at (p ++ (b ++ rest)) i w ≡ n = number_back (width f) p rest i e n h.0 in
    let later : numbers_at (p ++ (b ++ rest)) (i + w) fs ≡ ns =
    ap (λ x. numbers_at x (i + w) fs) (sym (append_assoc p b rest)) ∙ numbers_back fs ns (p ++ b) q (i + w) h.1 past in
    ap (λ x. numbers_at x i (f ∷ fs)) shape ∙ (λ j. first j ∷ later j)

pub numbers_again : (s : List ℕ) → ((i : ℕ) → get_or s i 0 < 256) → (fs : List Field) (i : ℕ) → i + widths fs ≤ length s → bytes_by fs (numbers_at s i fs) ++ drop (i + widths fs) s ≡ drop i s
unfolding numbers_at bytes_by widths
numbers_again s small [] i h = ap (λ k. drop k s) (add-zero i)
numbers_again s small (f ∷ fs) i h =
    let w = width_of f in
    let b = number_bytes w (number_at s i w) in
    let rest = bytes_by fs (numbers_at s (i + w) fs) in
    let place : i + (w + widths fs) ≡ i + w + widths fs = omega arith in
    let later : rest ++ drop (i + (w + widths fs)) s ≡ drop (i + w) s =
    ap (λ k. rest ++ drop k s) place ∙ numbers_again s small fs (i + w) (omega arith) in
    append_assoc b rest (drop (i + (w + widths fs)) s) ∙ (ap (λ x. b ++ x) later ∙ number_again (width f) s small i (omega arith))

-- ---- fields and then others
pub widths_append : (a b : List Field) → widths (a ++ b) ≡ widths a + widths b
unfolding widths
widths_append [] b = sym (zero-add (widths b))
widths_append (f ∷ a) b = ap (λ n. width_of f + n) (widths_append a b) ∙ sym (add_assoc (width_of f) (widths a) (widths b))

pub numbers_append : (s : List ℕ) (i : ℕ) (a b : List Field) → numbers_at s i (a ++ b) ≡ numbers_at s i a ++ numbers_at s (i + widths a) b
unfolding widths numbers_at
numbers_append s i [] b = ap (λ k. numbers_at s k b) (sym (add-zero i))
numbers_append s i (f ∷ a) b =
    ap (λ x. number_at s i (width_of f) ∷ x)
    (numbers_append s (i + width_of f) a b ∙ ap (λ k. numbers_at s (i + width_of f) a ++ numbers_at s k b) (add_assoc i (width_of f) (widths a)))

pub bytes_more : (fs : List Field) (ns : List ℕ) (i : ℕ) → i < length fs → i < length ns → bytes_by (take (suc i) fs) ns ≡ bytes_by (take i fs) ns ++ number_bytes (width_of (get_or fs i Kind)) (get_or ns i 0)
unfolding bytes_by
bytes_more [] ns i h k = absurd (omega arith)
bytes_more (f ∷ fs) [] i h k = absurd (omega arith)
bytes_more (f ∷ fs) (n ∷ ns) zero h k = append-nil (number_bytes (width_of f) n)
bytes_more (f ∷ fs) (n ∷ ns) (suc i) h k =
    let b = number_bytes (width_of f) n in
    ap (λ x. b ++ x) (bytes_more fs ns i (omega arith) (omega arith)) ∙ sym (append_assoc b (bytes_by (take i fs) ns) (number_bytes (width_of (get_or fs i Kind)) (get_or ns i 0)))

pub widths_first : (fs : List Field) (i : ℕ) → widths (take i fs) ≤ widths fs
widths_first fs i =
    let whole : widths fs ≡ widths (take i fs) + widths (drop i fs) = ap widths (sym (take-append-drop i fs)) ∙ widths_append (take i fs) (drop i fs) in
    omega arith
