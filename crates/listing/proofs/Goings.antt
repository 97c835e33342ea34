-- Field after field. Assumes nothing.
use Prim.Native.Nat.{ℕ, ◌+◌, ◌*◌, ◌≤◌, ◌<◌}
use mathlib.Core.Bool.{true, false}
use mathlib.Core.List.{List, [], ◌∷◌, ◌++◌, append_assoc, append-nil}
use mathlib.Core.Path.{◌≡◌, refl, sym, ap, ◌∙◌}
use native.Mathlib.Numerals.{add-one}
use native.Mathlib.Omega.{arith}
use borrow.Author.Tests.{lt-ltb}
use lib.ListN.{length, drop, get_or, drop_of_length-le}
use lib.Seq.{drop-cons}
use Rattle.arith.proofs.Tests.{le_or_lt, never}
use Rattle.rules.specs.declared.field.Field.{Field}
use Rattle.rules.specs.declared.field.Field.TheVariants.{Kind}
use Rattle.listing_words.specs.declared.field.Verdict.{Verdict}
use Rattle.listing_words.specs.declared.field.Verdict.TheVariants.{Passes, Cut, OutOfRange, NoBusinessDay, OnStartDay}
use Rattle.rules.specs.Fields.{width_of, number_at}
use Rattle.listing_words.specs.Fields.{verdict_of, passes, fault_place, is_none, fault_in}
use Rattle.listing.specs.Lines.{ListedAs, Going}
use Rattle.listing_numbers.specs.Short.{Short}
use Rattle.listing_words.specs.Words.{field_words, fault_words, words_in}
use Rattle.listing_numbers.proofs.Writers.{next, nothing, within_room}

not_cut : (n : ℕ) (s : List ℕ) (place : ℕ) (f : Field) → passes (verdict_of n s place f) ≡ true → place + width_of f ≤ length s
unfolding verdict_of
not_cut n s place f e = le_or_lt (place + width_of f) (length s) (λ h. h) (λ h. never (sym (rw (lt-ltb (length s) (place + width_of f) h) at e)))

module _ (first base n : ℕ) (s : List ℕ) (fs : List Field) {entry : List ℕ} {start : ℕ} where
  pub going_start : start ≤ length entry → Going first base n s fs entry entry start 0 0 start
  going_start h =
      record {
        text = [];
        wrote = within_room (80 * 0) [] (nothing start entry) refl (omega arith);
        words = refl;
        faults = refl;
        inside = omega arith;
        few = omega arith;
        same = refl;
      }

  module _ {out : List ℕ} {i place end : ℕ} (g : Going first base n s fs entry out start i place end) where
    module _ (f : Field) (below : i < length fs) (is : f ≡ get_or fs i Kind) where
      here : drop i fs ≡ f ∷ drop (i + 1) fs
      here = drop-cons fs i Kind below ∙ rw (add-one i, ← is) refl

      pub going_next : {out' : List ℕ} {end' : ℕ} → passes (verdict_of n s place f) ≡ true → start + 80 * i ≤ length entry → length out' ≡ length out
          → Short 80 end (field_words first f (number_at s place (width_of f))) out out' end' → Going first base n s fs entry out' start (i + 1) (place + width_of f) end'
      unfolding words_in fault_in
      going_next e room same w =
          record {
            text = g.text ++ field_words first f (number_at s place (width_of f));
            wrote = within_room (80 * (i + 1)) _ (next g.wrote w room) refl (omega arith);
            words = append_assoc g.text _ _ ∙ (sym (rw (here, e) at (ap (λ (x : List ℕ). x) (sym g.words))));
            faults = rw (here, e) at g.faults;
            inside = not_cut n s place f e;
            few = omega arith;
            same = same ∙ g.same;
          }

      pub going_fault : {out' : List ℕ} {end' : ℕ} (count : ℕ) → passes (verdict_of n s place f) ≡ false → start + 80 * i ≤ length entry → i < count
          → Short 170 end (fault_words base n s place f) out out' end'
          → ListedAs (80 * count + 170) start (words_in first base n s 0 fs) (fault_in n s 0 fs) entry out' (record { end = end'; is_sound = false })
      unfolding words_in fault_in
      going_fault count e room few w =
          record {
            written = within_room (80 * count + 170) _ (next g.wrote w room) (rw (here, e) at g.words) (omega arith);
            sound = ap is_none (rw (here, e) at g.faults);
          }

    pub going_end : (count : ℕ) → length fs ≤ i → i ≤ count → ListedAs (80 * count + 170) start (words_in first base n s 0 fs) (fault_in n s 0 fs) entry out
        (record { end = end; is_sound = true })
    unfolding words_in fault_in
    going_end count h few =
        record {
          written = within_room (80 * count + 170) _ g.wrote (sym (append-nil g.text) ∙ (rw (drop_of_length-le fs h) at g.words)) (omega arith);
          sound = ap is_none (rw (drop_of_length-le fs h) at g.faults);
        }

pub fault_most : (s : List ℕ) (place : ℕ) (v : Verdict) → place ≤ length s → fault_place s place v ≤ length s
fault_most s place Passes h = h
fault_most s place Cut h = omega arith
fault_most s place OutOfRange h = h
fault_most s place NoBusinessDay h = h
fault_most s place OnStartDay h = h
