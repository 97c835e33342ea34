-- What a writer of a line promises.
use Rattle.std.specs.Prelude.{ℕ, ◌+◌, ◌*◌, ◌≤◌, List, ◌++◌, ◌≡◌, length, drop}
use Rattle.rules.specs.declared.field.Field.{Field}
use Rattle.listing_words.specs.declared.field.Shape.{Shape}
use Rattle.listing.specs.declared.lines.Listed.{Listed}
use Rattle.listing_words.specs.Fields.{fields_in, Fault, is_none, fault_in}
use Rattle.listing_numbers.specs.Short.{Short}
use Rattle.listing_words.specs.Words.{words_in}

-- The text is written, in at most so many places, and the answer says whether there is no fault.
pub record ListedAs (most start : ℕ) (text : List ℕ) (fault : Fault) (entry exit : List ℕ) (r : Listed) : Type 0 where
  pub written : Short most start text entry exit r.end
  pub sound : r.is_sound ≡ is_none fault

-- The fields of a shape, as the bytes have them.
abbrev pub FieldsListed : ℕ → ℕ → ℕ → ℕ → ℕ → List ℕ → Shape → List ℕ → List ℕ → Listed → Type 0
FieldsListed count start first base n s shape entry exit r =
    ListedAs (80 * count + 170) start (words_in first base n s 0 (fields_in shape)) (fault_in n s 0 (fields_in shape)) entry exit r

-- The first i fields are written; what is left from here makes the whole.
pub record Going (first base n : ℕ) (s : List ℕ) (fs : List Field) (entry out : List ℕ) (start i place end : ℕ) : Type 0 where
  pub text : List ℕ
  pub wrote : Short (80 * i) start text entry out end
  pub words : text ++ words_in first base n s place (drop i fs) ≡ words_in first base n s 0 fs
  pub faults : fault_in n s place (drop i fs) ≡ fault_in n s 0 fs
  pub inside : place ≤ length s
  pub few : i ≤ length fs
  pub same : length out ≡ length entry
