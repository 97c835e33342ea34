-- Headers written and read back, and read and written again. Assumes nothing.
use Prim.Native.Nat.{ℕ, zero, suc, ◌+◌, ◌*◌, ◌-◌, ◌/◌, ◌%◌, ◌≤◌, ◌<◌}
use mathlib.Core.Bool.{Bool, true, false, cond}
use mathlib.Core.List.{List, [], ◌∷◌, ◌++◌, flat_map, append_assoc}
use mathlib.Core.Path.{◌≡◌, refl, sym, ap, ◌∙◌}
use native.Mathlib.Omega.{arith}
use Rattle.std.proofs.Common.{Some, None}
use Rattle.header.specs.declared.reader.ReadHeader.{ReadHeader}
use borrow.Author.Tests.{le-leb, leb-true, ltb-true, eqb-true}
use lib.Dec.{eqb, leb, ltb}
use lib.Seq.{take_at}
use lib.ListN.{length, get_or, take, drop, length-append, take-append-drop}
use Rattle.arith.specs.Lists.{All, from, every, total, over}
use Rattle.arith.proofs.Alls.{every_all, all_map}
use Rattle.arith.proofs.Writes.{over_front}
use Rattle.arith.proofs.Tests.{by_bool, and_right, and_false}
use Rattle.rules.specs.Ranges.{most_first_year, most_limit}
use Rattle.rules.specs.Days.{Calendar, leap_year, year_start, month_start, span_start, day_after_span, in_span}
use Rattle.rules.specs.Header.{Header, u16_at, u32_at, u16_bytes, u32_bytes, u16s_at, u32s_at, letters_and_version, same_bytes, header_length, header_of, header_bytes, calendar_of}
use Rattle.rules.specs.Header.{calendar_sound, limit_sound, day_sound, header_sound, begins_with_header, write_header_spec}
use Rattle.rules.proofs.Writing.{written}
use Rattle.rules.specs.declared.refusal.Refusal.TheVariants.{HeaderUnsound}
use Rattle.header.proofs.Headers.{same_true, length_u16s, columns_read, reading_sound, write_header_whole}
use Rattle.header.specs.Journal.{header_from, header_columns, header_reading}
use Rattle.header.specs.Trips.{WrittenIsRead, ReadIsWritten}
use Rattle.big_endian.proofs.Numbers.{bytes_small, u16_wide, u32_wide, u16_back, u32_back, all_back, u8_again, u16_again, u32_again, all_again}
use Rattle.arith.proofs.Appends.{flat_length}

-- ---- days fit two bytes
years_most : (n : ℕ) → year_start n ≤ 366 * n
unfolding year_start
years_most zero = omega arith
years_most (suc n) =
    let before = years_most n in
    by_bool (λ b. year_start n + cond b 366 365 ≤ 366 * suc n) (leap_year (2020 + n)) (λ _. omega arith) (λ _. omega arith)

whole_years : (i m : ℕ) → i / 12 ≡ m → i % 12 ≡ 0 → month_start i ≤ 366 * m
unfolding month_start total from
whole_years i m e f = rw (e, f) (omega (arith, years_most m))

span_most : (k : Calendar) → k.first_year ≤ most_first_year → day_after_span k ≤ 29280
unfolding day_after_span
span_most k h =
    let years : (12 * (k.first_year - 2020) + 72) / 12 ≡ k.first_year - 2020 + 6 = omega arith in
    let most = whole_years (12 * (k.first_year - 2020) + 72) (k.first_year - 2020 + 6) years (omega arith) in
    omega arith

in_span_small : (k : Calendar) (d : ℕ) → k.first_year ≤ most_first_year → in_span k d ≡ true → d < 65536
unfolding in_span
in_span_small k d y t = omega (arith, span_most k y, ltb-true d (day_after_span k) (and_right (leb (span_start k) d) (ltb d (day_after_span k)) t))

-- ---- what a sound header holds
pub record Holds (h : Header) : Type 0 where
  pub year : h.first_year ≤ most_first_year
  pub start : h.start_day < 65536
  pub sized : length h.limits ≡ h.members
  pub days : All (λ d. d < 65536) h.holidays
  pub limits : All (λ l. l < 4294967296) h.limits

fits : (h : Header) → h.first_year ≤ most_first_year → in_span (calendar_of h) h.start_day ≡ true → length h.limits ≡ h.members
    → every (in_span (calendar_of h)) h.holidays ≡ true → every limit_sound h.limits ≡ true → Holds h
fits h year start sized days limits =
    record {
      year = year;
      start = in_span_small (calendar_of h) h.start_day year start;
      sized = sized;
      days = all_map (λ d. in_span (calendar_of h) d ≡ true) (λ d. d < 65536) h.holidays (λ d. in_span_small (calendar_of h) d year) (every_all (in_span (calendar_of h)) h.holidays days);
      limits = all_map (λ l. limit_sound l ≡ true) (λ l. l < 4294967296) h.limits (λ l e. omega (arith, leb-true l most_limit e)) (every_all limit_sound h.limits limits);
    }

must : (b : Bool) → (b ≡ false → true ≡ false) → b ≡ true
must true f = refl
must false f = sym (f refl)

pub holds : (h : Header) → header_sound h ≡ true → Holds h
unfolding header_sound calendar_sound day_sound
holds h t =
    let k = calendar_of h in
    let year : leb h.first_year most_first_year ≡ true = must (leb h.first_year most_first_year) (λ f. sym (simp (f, and_false) at t)) in
    let days : every (in_span k) h.holidays ≡ true = must (every (in_span k) h.holidays) (λ f. sym (simp (f, and_false) at t)) in
    let start : in_span k h.start_day ≡ true = must (in_span k h.start_day) (λ f. sym (simp (f, and_false) at t)) in
    let sized : eqb (length h.limits) h.members ≡ true = must (eqb (length h.limits) h.members) (λ f. sym (simp (f, and_false) at t)) in
    let limits : every limit_sound h.limits ≡ true = must (every limit_sound h.limits) (λ f. sym (simp (f, and_false) at t)) in
    fits h (leb-true h.first_year most_first_year year) start (eqb-true (length h.limits) h.members sized) days limits

-- ---- written, then read
module _ (h : Header) (x : Holds h) (rest : List ℕ) where
  front : List ℕ
  front = letters_and_version ++ (u16_bytes h.first_year ++ (u16_bytes h.start_day ++ (h.members ∷ length h.holidays ∷ [])))

  shape : header_bytes h ++ rest ≡ front ++ (flat_map u16_bytes h.holidays ++ (flat_map u32_bytes h.limits ++ rest))
  unfolding header_bytes u16_bytes front
  shape = rw (append_assoc (flat_map u16_bytes h.holidays) (flat_map u32_bytes h.limits) rest) refl

  days_back : u16s_at (header_bytes h ++ rest) 11 (length h.holidays) ≡ h.holidays
  unfolding u16s_at front u16_bytes
  days_back = rw shape (all_back u16_bytes 2 u16_wide u16_at (λ d. d < 65536) (λ p q i e b g. u16_back p q i e b g) h.holidays front (flat_map u32_bytes h.limits ++ rest) 11 refl x.days)

  length_front : length (front ++ flat_map u16_bytes h.holidays) ≡ 11 + 2 * length h.holidays
  unfolding front u16_bytes
  length_front = omega (arith, length-append front (flat_map u16_bytes h.holidays), flat_length 2 u16_bytes u16_wide h.holidays)

  limits_back : u32s_at (header_bytes h ++ rest) (11 + 2 * length h.holidays) (length h.limits) ≡ h.limits
  unfolding u32s_at
  limits_back =
      rw (shape, ← append_assoc front (flat_map u16_bytes h.holidays) (flat_map u32_bytes h.limits ++ rest))
      (all_back u32_bytes 4 u32_wide u32_at (λ l. l < 4294967296) u32_back h.limits (front ++ flat_map u16_bytes h.holidays) rest (11 + 2 * length h.holidays) (sym length_front) x.limits)

  fields_back : header_of (header_bytes h ++ rest) ≡ h
  unfolding header_of header_bytes u16_bytes
  fields_back =
      let y = x.year in
      let s = x.start in
      let tail = h.members ∷ length h.holidays ∷ (flat_map u16_bytes h.holidays ++ flat_map u32_bytes h.limits) ++ rest in
      let year : u16_at (header_bytes h ++ rest) 5 ≡ h.first_year = u16_back letters_and_version (u16_bytes h.start_day ++ tail) 5 refl h.first_year (omega arith) in
      let start : u16_at (header_bytes h ++ rest) 7 ≡ h.start_day = u16_back (letters_and_version ++ u16_bytes h.first_year) tail 7 refl h.start_day s in
      let limits : u32s_at (header_bytes h ++ rest) (11 + 2 * length h.holidays) h.members ≡ h.limits =
      ap (u32s_at (header_bytes h ++ rest) (11 + 2 * length h.holidays)) (sym x.sized) ∙ limits_back in
      λ i. record { first_year = year i; start_day = start i; members = h.members; holidays = days_back i; limits = limits i }

  length_back : length (header_bytes h) ≡ 11 + 2 * length h.holidays + 4 * h.members
  unfolding header_bytes u16_bytes
  length_back =
      simp (length-append, flat_length 2 u16_bytes u16_wide h.holidays, flat_length 4 u32_bytes u32_wide h.limits) (omega (arith, x.sized))

  length_read : header_length (header_bytes h ++ rest) ≡ length (header_bytes h)
  unfolding header_length header_bytes u16_bytes
  length_read = sym length_back

  letters_back : same_bytes (take 5 (header_bytes h ++ rest)) letters_and_version ≡ true
  unfolding header_bytes same_bytes
  letters_back = refl

  begins_back : header_sound h ≡ true → begins_with_header (header_bytes h ++ rest) ≡ true
  unfolding begins_with_header
  begins_back t =
      let long : length (header_bytes h ++ rest) ≡ length (header_bytes h) + length rest = length-append (header_bytes h) rest in
      let least = length_back in
      rw (
        le-leb 11 (length (header_bytes h ++ rest)) (omega arith),
        letters_back,
        le-leb (header_length (header_bytes h ++ rest)) (length (header_bytes h ++ rest)) (rw length_read (omega arith)),
        fields_back,
      ) t

-- ---- read, then written
module _ (s : List ℕ) (small : (i : ℕ) → get_or s i 0 < 256) (begins : same_bytes (take 5 s) letters_and_version ≡ true) (long : header_length s ≤ length s) where
  letters_again : letters_and_version ++ drop 5 s ≡ s
  letters_again = ap (λ l. l ++ drop 5 s) (sym (same_true (take 5 s) letters_and_version begins)) ∙ take-append-drop 5 s

  module _ (n m : ℕ) (fit : 11 + 2 * n + 4 * m ≤ length s) where
    lists_again : flat_map u16_bytes (u16s_at s 11 n) ++ flat_map u32_bytes (u32s_at s (11 + 2 * n) m) ++ drop (11 + 2 * n + 4 * m) s ≡ drop 11 s
    unfolding u16s_at u32s_at
    lists_again =
        rw (append_assoc, all_again u32_bytes 4 u32_at s (u32_again s small) m (11 + 2 * n) fit) (all_again u16_bytes 2 u16_at s (u16_again s small) n 11 (omega arith))

    rest_again : u16_bytes (u16_at s 5) ++
        (u16_bytes (u16_at s 7) ++ (get_or s 9 0 ∷ get_or s 10 0 ∷ flat_map u16_bytes (u16s_at s 11 n) ++ flat_map u32_bytes (u32s_at s (11 + 2 * n) m))) ++ drop
        (11 + 2 * n + 4 * m) s ≡ drop 5 s
    rest_again =
        rw (append_assoc, append_assoc, lists_again, u8_again s small 10 (omega arith), u8_again s small 9 (omega arith), u16_again s small 7 (omega arith), u16_again s small 5 (omega arith)) refl

  header_bytes_again : header_bytes (header_of s) ++ drop (header_length s) s ≡ s
  unfolding header_bytes header_of header_length
  header_bytes_again =
      rw (length_u16s s 11 (get_or s 10 0))
      (ap (λ l. letters_and_version ++ l) (rest_again (get_or s 10 0) (get_or s 9 0) long) ∙ letters_again)

pub begun : (s : List ℕ) → begins_with_header s ≡ true → (same_bytes (take 5 s) letters_and_version ≡ true) × (header_length s ≤ length s) × (header_sound (header_of s) ≡ true)
unfolding begins_with_header
begun s e = (
  must (same_bytes (take 5 s) letters_and_version) (λ f. sym (simp (f, and_false) at e)),
  leb-true (header_length s) (length s) (must (leb (header_length s) (length s)) (λ f. sym (simp (f, and_false) at e))),
  must (header_sound (header_of s)) (λ f. sym (simp (f, and_false) at e)),
)

header_size : (s : List ℕ) → header_sound (header_of s) ≡ true → length (header_bytes (header_of s)) ≡ header_length s
unfolding header_of header_length
header_size s t = rw (length_u16s s 11 (get_or s 10 0)) at (length_back (header_of s) (holds (header_of s) t) [])

-- ---- the promises
pub written_is_read : WrittenIsRead
unfolding write_header_spec
written_is_read h out k after w =
    let x = header_from h in
    let bytes = header_bytes x in
    let rest = drop (length bytes) out in
    let reply_of = written HeaderUnsound k (length bytes) out after (over 0 bytes out) (header_sound x) (ltb (length out) (length bytes)) w in
    let held = holds x reply_of.0 in
    let begins = begins_back x held rest reply_of.0 in
    rw (reply_of.1, reply_of.2 ∙ over_front bytes out)
    (sym (rw (fields_back x held rest) at (reading_sound (bytes ++ rest) (length bytes) begins (sym (length_read x held rest)))))

-- what a reading says that gives a header
pub given : (s : List ℕ) (r : ReadHeader) → header_reading s ≡ Some r → (begins_with_header s ≡ true) × (r ≡ record { length = header_length s; header = header_columns (header_of s) })
unfolding header_reading
given s r e = go (begins_with_header s) e
  where
    go : (b : Bool) → cond b (Some (record { length = header_length s; header = header_columns (header_of s) })) None ≡ Some r
        → (b ≡ true) × (r ≡ record { length = header_length s; header = header_columns (header_of s) })
    go true e = (refl, cc)
    go false e = absurd (let z : ◌≡◌ {A = ℕ} 0 1 = cc in omega arith)

pub read_is_written : ReadIsWritten
read_is_written s out k h b r room =
    let reply_of = given s (record { length = k; header = h }) r in
    let size_of : k ≡ header_length s = ap (λ (x : ReadHeader). x.length) reply_of.1 in
    let header_of_it : h ≡ header_columns (header_of s) = ap (λ (x : ReadHeader). x.header) reply_of.1 in
    let w = begun s reply_of.0 in
    let n = header_length s in
    let size : length (header_bytes (header_of s)) ≡ n = header_size s w.2 in
    let again = header_bytes_again s (bytes_small s b) w.0 w.1 in
    let whole : header_bytes (header_of s) ≡ take n s = sym (rw again at (take_at (header_bytes (header_of s)) (drop n s) n size)) in
    let fits : n ≤ length out = rw size_of at room in
    rw (size_of, header_of_it, columns_read s)
    (sym (write_header_whole (header_of s) out w.2 n (over 0 (take n s) out) (sym size) (rw size fits) (ap (λ l. over 0 l out) (sym whole))))
