-- The header's line, when more bytes come behind a whole header. Assumes nothing.
use Prim.Native.Nat.{ℕ, ◌+◌, ◌-◌, ◌≤◌}
use mathlib.Core.Bool.{Bool, true, false, cond, ◌||◌}
use mathlib.Core.List.{List, [], ◌∷◌, ◌++◌}
use mathlib.Core.Path.{◌≡◌, refl, sym, ◌∙◌}
use native.Mathlib.Omega.{arith}
use borrow.Author.Tests.{le-ltb, le-leb, lt-leb}
use lib.Dec.{eqb}
use lib.ListN.{length, get_or, length-append}
use Rattle.arith.proofs.Tests.{true_or, le_or_lt}
use Rattle.rules.specs.declared.field.Field.{Field}
use Rattle.rules.specs.declared.field.Field.TheVariants.{LetterV, LetterJ, LetterR, Version, FirstYear, StartDay, Members, HolidayCount, Holiday, Limit}
use Rattle.rules.specs.declared.field.Field.TheVariants.{Kind, Time, Member, Contract, Side, OrderKind, Price, Lots, Order, Low, High, Legs, Ratio}
use Rattle.rules.specs.Days.{saturday, sunday}
use Rattle.rules.specs.Fields.{width_of, widths, number_at}
use Rattle.rules.specs.Header.{u16_at, header_length}
use Rattle.journal.proofs.Headers.{byte, u16_more, u32_more}
use Rattle.listing.proofs.HeaderSizes.{header_widths}
use Rattle.listing_words.specs.declared.field.Verdict.TheVariants.{Passes, OutOfRange, NoBusinessDay, OnStartDay}
use Rattle.listing_words.specs.Fields.{fields_in, header_shape, quantity_of, holiday_range, range_of, within, day_verdict, verdict_of, fault_place, fault_in, header_fault}
use Rattle.listing_words.specs.Words.{fault_words, words_in, header_line}

module _ (s more : List ℕ) (eleven : 11 ≤ length s) where
  -- What is read of the bytes for a field at a place, and where its fault is found.
  record Alike (n place : ℕ) (f : Field) : Type 0 where
    pub number : number_at (s ++ more) place (width_of f) ≡ number_at s place (width_of f)
    pub range : range_of n (s ++ more) place f ≡ range_of n s place f
    pub day : (v : ℕ) → day_verdict (s ++ more) (quantity_of f) v ≡ day_verdict s (quantity_of f) v
    pub found : (v : ℕ) → fault_place (s ++ more) place (day_verdict s (quantity_of f) v) ≡ fault_place s place (day_verdict s (quantity_of f) v)

  module _ (n place : ℕ) where
    one : place + 1 ≤ length s → number_at (s ++ more) place 1 ≡ number_at s place 1
    unfolding number_at
    one h = byte s more place (omega arith)

    two : place + 2 ≤ length s → number_at (s ++ more) place 2 ≡ number_at s place 2
    unfolding number_at
    two h = u16_more s more place h

    four : place + 4 ≤ length s → number_at (s ++ more) place 4 ≡ number_at s place 4
    unfolding number_at
    four h = u32_more s more place h

    weekend_found : (b : Bool) → fault_place (s ++ more) place (cond b NoBusinessDay Passes) ≡ fault_place s place (cond b NoBusinessDay Passes)
    weekend_found true = refl
    weekend_found false = refl

    holiday_found : (b : Bool) → fault_place (s ++ more) place (cond b OnStartDay Passes) ≡ fault_place s place (cond b OnStartDay Passes)
    holiday_found true = refl
    holiday_found false = refl

    holiday_range_lem : place ≤ length s → holiday_range (s ++ more) place ≡ holiday_range s place
    unfolding holiday_range
    holiday_range_lem h =
        le_or_lt place 11 (λ e. rw (le-leb place 11 e, u16_more s more 5 (omega arith)) refl)
        (λ e. rw (lt-leb place 11 e, u16_more s more 5 (omega arith), u16_more s more (place - 2) (omega arith)) refl)

    plain : {f : Field} → number_at (s ++ more) place (width_of f) ≡ number_at s place (width_of f) → range_of n (s ++ more) place f ≡ range_of n s place f
        → ((v : ℕ) → day_verdict (s ++ more) (quantity_of f) v ≡ Passes) → ((v : ℕ) → day_verdict s (quantity_of f) v ≡ Passes) → Alike n place f
    plain e r d d' = record { number = e; range = r; day = λ v. d v ∙ sym (d' v); found = λ v. rw (d' v) refl }

    alike : (f : Field) → place + width_of f ≤ length s → Alike n place f
    alike LetterV h = plain (one h) refl (λ v. refl) (λ v. refl)
    alike LetterJ h = plain (one h) refl (λ v. refl) (λ v. refl)
    alike LetterR h = plain (one h) refl (λ v. refl) (λ v. refl)
    alike Version h = plain (two h) refl (λ v. refl) (λ v. refl)
    alike FirstYear h = plain (two h) refl (λ v. refl) (λ v. refl)
    alike StartDay h = record { number = two h; range = rw (u16_more s more 5 (omega arith)) refl; day = λ v. refl; found = λ v. weekend_found (saturday v || sunday v) }
    alike Members h = plain (one h) refl (λ v. refl) (λ v. refl)
    alike HolidayCount h = plain (one h) refl (λ v. refl) (λ v. refl)
    alike Holiday h =
        record { number = two h; range = holiday_range_lem (omega arith); day = λ v. rw (u16_more s more 7 (omega arith)) refl; found = λ v. holiday_found (eqb v (u16_at s 7)) }
    alike Limit h = plain (four h) refl (λ v. refl) (λ v. refl)
    alike Kind h = plain (one h) refl (λ v. refl) (λ v. refl)
    alike Time h = plain (four h) refl (λ v. refl) (λ v. refl)
    alike Member h = plain (one h) refl (λ v. refl) (λ v. refl)
    alike Contract h = plain (one h) refl (λ v. refl) (λ v. refl)
    alike Side h = plain (one h) refl (λ v. refl) (λ v. refl)
    alike OrderKind h = plain (one h) refl (λ v. refl) (λ v. refl)
    alike Price h = plain (four h) refl (λ v. refl) (λ v. refl)
    alike Lots h = plain (two h) refl (λ v. refl) (λ v. refl)
    alike Order h = plain (four h) refl (λ v. refl) (λ v. refl)
    alike Low h = plain (four h) refl (λ v. refl) (λ v. refl)
    alike High h = plain (four h) (rw (u32_more s more 2 (omega arith)) refl) (λ v. refl) (λ v. refl)
    alike Legs h = plain (one h) refl (λ v. refl) (λ v. refl)
    alike Ratio h = plain (two h) refl (λ v. refl) (λ v. refl)

  module _ (n place : ℕ) (f : Field) (h : place + width_of f ≤ length s) where
    not_cut : verdict_of n s place f ≡ cond (within (range_of n s place f) (number_at s place (width_of f))) (day_verdict s (quantity_of f) (number_at s place (width_of f))) OutOfRange
    unfolding verdict_of
    not_cut = rw (le-ltb (length s) (place + width_of f) h) refl

    verdict_more : verdict_of n (s ++ more) place f ≡ verdict_of n s place f
    unfolding verdict_of
    verdict_more =
        let a = alike n place f h in
        let l = length-append s more in
        rw (
          le-ltb (length s) (place + width_of f) h,
          le-ltb (length (s ++ more)) (place + width_of f) (omega arith),
          a.number,
          a.range,
          a.day (number_at s place (width_of f)),
        ) refl

    found_more : fault_place (s ++ more) place (verdict_of n s place f) ≡ fault_place s place (verdict_of n s place f)
    found_more =
        rw not_cut
        (true_or (within (range_of n s place f) (number_at s place (width_of f))) (λ e. rw e ((alike n place f h).found (number_at s place (width_of f)))) (λ e. rw e refl))

  words_more : (first base n place : ℕ) (fs : List Field) → place + widths fs ≤ length s → words_in first base n (s ++ more) place fs ≡ words_in first base n s place fs
  unfolding words_in widths fault_words
  words_more first base n place [] h = refl
  words_more first base n place (f ∷ fs) h =
      let fits : place + width_of f ≤ length s = omega arith in
      let a = alike n place f fits in
      rw (verdict_more n place f fits, found_more n place f fits, a.number, a.range, words_more first base n (place + width_of f) fs (omega arith)) refl

  fault_more : (n place : ℕ) (fs : List Field) → place + widths fs ≤ length s → fault_in n (s ++ more) place fs ≡ fault_in n s place fs
  unfolding fault_in widths
  fault_more n place [] h = refl
  fault_more n place (f ∷ fs) h =
      let fits : place + width_of f ≤ length s = omega arith in
      rw (verdict_more n place f fits, found_more n place f fits, fault_more n (place + width_of f) fs (omega arith)) refl

-- The bytes hold a whole header.
module _ (s more : List ℕ) (fits : header_length s ≤ length s) where
  all_fields : 0 + widths (fields_in (header_shape s)) ≤ length s
  unfolding header_length
  all_fields = omega (arith, fits, header_widths (get_or s 10 0) (get_or s 9 0))

  eleven : 11 ≤ length s
  unfolding header_length
  eleven = omega (arith, fits)

  shape_more : header_shape (s ++ more) ≡ header_shape s
  shape_more = let l = eleven in rw (byte s more 10 (omega arith), byte s more 9 (omega arith)) refl

  pub header_line_more : header_line (s ++ more) ≡ header_line s
  unfolding header_line
  header_line_more = rw (shape_more, words_more s more eleven 0 0 0 0 (fields_in (header_shape s)) all_fields) refl

  pub header_fault_more : header_fault (s ++ more) ≡ header_fault s
  header_fault_more = rw (shape_more, fault_more s more eleven 0 0 (fields_in (header_shape s)) all_fields) refl
