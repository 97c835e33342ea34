-- Chunk by chunk is all at once. Assumes nothing.
use Prim.Native.Nat.{ℕ, zero, suc, ◌+◌, ◌<◌, ◌≤◌}
use mathlib.Core.Bool.{Bool, true, false, cond}
use mathlib.Core.List.{List, [], ◌++◌, append_assoc, append-nil}
use mathlib.Core.Path.{◌≡◌, refl, sym, ap, ◌∙◌}
use native.Mathlib.Omega.{arith}
use borrow.Author.Tests.{eq-eqb, ne_eqb, eqb-true, eqb-false}
use lib.Dec.{eqb}
use lib.ListN.{length, take, drop, length-drop, length-append}
use lib.Seq.{drop-append-le, take-append-le}
use Rattle.arith.proofs.Tests.{le_or_lt, never, true_or}
use Rattle.rules.specs.declared.event.Front.{Front}
use Rattle.rules.specs.declared.event.Front.TheVariants.{Whole, Cut, UnknownKind}
use Rattle.rules.specs.Header.{header_of, header_length}
use Rattle.rules.specs.Journal.{next_length}
use Rattle.rules.specs.Records.{front_of}
use Rattle.std.specs.Prelude.{Some, None, not}
use Rattle.journal.specs.Stages.{length_by_now, length_now}
use Rattle.journal.proofs.Fronts.{next_some, now_next}
use Rattle.journal.proofs.Headers.{length_more, header_more}
use Rattle.listing.specs.declared.pieces.Piece.{Piece}
use Rattle.listing.specs.declared.pieces.Piece.TheVariants.{Record, More, End}
use Rattle.listing.specs.Pieces.{piece_of}
use Rattle.listing.proofs.Fronts.{front_fits}
use Rattle.listing.proofs.HeaderSizes.{header_fits}
use Rattle.listing_words.specs.Fields.{is_none, fault_of, header_fault}
use Rattle.listing_words.specs.Words.{header_line, record_line}
use Rattle.listing_chunks.specs.Listings.{lines_within, record_lines, sound_within, records_sound, records_ending, listing_text, listing_ending}
use Rattle.listing_chunks.specs.Chunks.{Turns, start, read, line, ChunkByChunk, AllListed, ListedToFault, HeaderAtFault}
use Rattle.listing_chunks.proofs.Headers.{header_line_more, header_fault_more}

-- ---- record by record
behind_short : (s : List ℕ) → 0 < length s → length (drop (next_length s) s) < length s
behind_short s h = rw (length-drop (next_length s) s) (omega (arith, next_some s h))

-- Going from record to record with fuel: what it gives without bytes, and what it makes of a record and of the bytes behind it.
module _ {A : Type 0} (go : ℕ → ℕ → ℕ → List ℕ → A) (none : A) (join : ℕ → ℕ → List ℕ → A → A)
    (at_end_lem : (f k b : ℕ) (s : List ℕ) → length s ≡ 0 → go f k b s ≡ none)
    (at_next : (f k b : ℕ) (s : List ℕ) → 0 < length s → go (suc f) k b s ≡ join k b s (go f (k + 1) (b + next_length s) (drop (next_length s) s))) where
  -- Fuel for each byte is enough.
  fuel : (f g k b : ℕ) (s : List ℕ) → length s ≤ f → length s ≤ g → go f k b s ≡ go g k b s
  fuel zero g k b s h i = at_end_lem zero k b s (omega arith) ∙ sym (at_end_lem g k b s (omega arith))
  fuel (suc f) zero k b s h i = at_end_lem (suc f) k b s (omega arith) ∙ sym (at_end_lem zero k b s (omega arith))
  fuel (suc f) (suc g) k b s h i =
      le_or_lt (length s) 0
      (λ z. at_end_lem (suc f) k b s (omega arith) ∙ sym (at_end_lem (suc g) k b s (omega arith)))
      (λ z. let less = behind_short s z in
      at_next f k b s z
      ∙ (ap (join k b s) (fuel f g (k + 1) (b + next_length s) (drop (next_length s) s) (omega arith) (omega arith)) ∙ sym (at_next g k b s z)))

  record_by_record : (k b : ℕ) (s : List ℕ) → 0 < length s
      → go (length s) k b s ≡ join k b s (go (length (drop (next_length s) s)) (k + 1) (b + next_length s) (drop (next_length s) s))
  record_by_record k b s h =
      let less = behind_short s h in
      fuel (length s) (suc (length s)) k b s (omega arith) (omega arith)
      ∙ (at_next (length s) k b s h
      ∙ ap (join k b s) (fuel (length s) (length (drop (next_length s) s)) (k + 1) (b + next_length s) (drop (next_length s) s) (omega arith) (omega arith)))

module _ (n first : ℕ) where
  abbrev joined_lines : ℕ → ℕ → List ℕ → List ℕ → List ℕ
  joined_lines k b s behind = record_line n first (k + 1) b (take (next_length s) s) ++ cond (is_none (fault_of n (take (next_length s) s))) behind []

  abbrev joined_sound : List ℕ → Bool → Bool
  joined_sound s behind = cond (is_none (fault_of n (take (next_length s) s))) behind false

  lines_end : (f k b : ℕ) (s : List ℕ) → length s ≡ 0 → lines_within f n first k b s ≡ []
  unfolding lines_within
  lines_end zero k b s e = refl
  lines_end (suc f) k b s e = rw (eq-eqb (length s) 0 e) refl

  lines_next : (f k b : ℕ) (s : List ℕ) → 0 < length s
      → lines_within (suc f) n first k b s ≡ joined_lines k b s (lines_within f n first (k + 1) (b + next_length s) (drop (next_length s) s))
  unfolding lines_within
  lines_next f k b s h = rw (ne_eqb (length s) 0 (λ z. omega arith)) refl

  sound_end : (f : ℕ) (s : List ℕ) → length s ≡ 0 → sound_within f n s ≡ true
  unfolding sound_within
  sound_end zero s e = refl
  sound_end (suc f) s e = rw (eq-eqb (length s) 0 e) refl

  sound_next : (f : ℕ) (s : List ℕ) → 0 < length s → sound_within (suc f) n s ≡ joined_sound s (sound_within f n (drop (next_length s) s))
  unfolding sound_within
  sound_next f s h = rw (ne_eqb (length s) 0 (λ z. omega arith)) refl

  pub lines_none : (k b : ℕ) (s : List ℕ) → length s ≡ 0 → record_lines n first k b s ≡ []
  unfolding record_lines
  lines_none k b s e = lines_end (length s) k b s e

  pub lines_first : (k b : ℕ) (s : List ℕ) → 0 < length s → record_lines n first k b s ≡ joined_lines k b s (record_lines n first (k + 1) (b + next_length s) (drop (next_length s) s))
  unfolding record_lines
  lines_first k b s h = record_by_record (λ f i j l. lines_within f n first i j l) [] joined_lines lines_end lines_next k b s h

  pub sound_none : (s : List ℕ) → length s ≡ 0 → records_sound n s ≡ true
  unfolding records_sound
  sound_none s e = sound_end (length s) s e

  pub sound_first : (s : List ℕ) → 0 < length s → records_sound n s ≡ joined_sound s (records_sound n (drop (next_length s) s))
  unfolding records_sound
  sound_first s h = record_by_record (λ f i j l. sound_within f n l) true (λ i j l x. joined_sound l x) (λ f i j l e. sound_end f l e) (λ f i j l e. sound_next f l e) 0 0 s h

-- ---- the next piece is the next record, whatever comes
module _ (last : Bool) (s : List ℕ) where
  abbrev PieceIs : Piece → Type 0
  PieceIs (Record m) = (length_now last s ≡ Some m) × (1 ≤ m) × (m ≤ length s)
  PieceIs More = Unit {0}
  PieceIs End = (last ≡ true) × (length s ≡ 0)

  cut_piece : (b z : Bool) → last ≡ b → eqb (length s) 0 ≡ z → front_of s ≡ Cut → PieceIs (piece_of last s)
  unfolding piece_of length_by_now
  cut_piece true true e g f = rw (f, e, g) (refl, eqb-true (length s) 0 g)
  cut_piece true false e g f = let some : length s ≡ 0 → ⊥ = eqb-false (length s) 0 g in rw (f, e, g) (rw f (ap (λ b. cond (not b) (Some (length s)) None) g), omega arith, omega arith)
  cut_piece false z e g f = rw (f, e) tt

  by_front : (x : Front) → front_of s ≡ x → PieceIs (piece_of last s)
  unfolding piece_of length_by_now
  by_front (Whole m) f = let fits = rw f at (front_fits s) in rw f (rw f refl, fits.0, fits.1)
  by_front UnknownKind f = let fits = rw f at (front_fits s) in rw f (rw f refl, omega arith, fits)
  by_front Cut f = cut_piece last (eqb (length s) 0) refl refl f

  piece_is : {x : Piece} → piece_of last s ≡ x → PieceIs x
  piece_is e = rw e at (by_front (front_of s) refl)

  -- With these bytes behind it.
  module _ (m : ℕ) (piece : piece_of last s ≡ Record m) (more : List ℕ) (ends : last ≡ true → more ≡ []) where
    pub piece_next : next_length (s ++ more) ≡ m
    piece_next = let p = piece_is piece in now_next last s p.0 more ends

    pub piece_some : 0 < length (s ++ more)
    piece_some = let p = piece_is piece in rw (length-append s more) (omega (arith, p.1, p.2))

    pub piece_taken : take (next_length (s ++ more)) (s ++ more) ≡ take m s
    piece_taken = rw piece_next (take-append-le m s more (piece_is piece).2)

    pub piece_behind : drop (next_length (s ++ more)) (s ++ more) ≡ drop m s ++ more
    piece_behind = rw piece_next (drop-append-le m s more (piece_is piece).2)

-- ---- a line, and the lines behind it
module _ (n first k b : ℕ) (last : Bool) (s : List ℕ) (m : ℕ) (piece : piece_of last s ≡ Record m) (more : List ℕ) (ends : last ≡ true → more ≡ []) where
  line_sound : is_none (fault_of n (take m s)) ≡ true
      → (record_lines n first k b (s ++ more) ≡ record_line n first (k + 1) b (take m s) ++ record_lines n first (k + 1) (b + m) (drop m s ++ more))
      × (records_sound n (s ++ more) ≡ records_sound n (drop m s ++ more))
  line_sound sound =
      let some = piece_some last s m piece more ends in
      let taken = piece_taken last s m piece more ends in
      let behind = piece_behind last s m piece more ends in
      (lines_first n first k b (s ++ more) some ∙ rw (taken, behind, piece_next last s m piece more ends, sound) refl, sound_first n first (s ++ more) some ∙ rw (taken, behind, sound) refl)

  line_at_fault : is_none (fault_of n (take m s)) ≡ false
      → (record_lines n first k b (s ++ more) ≡ record_line n first (k + 1) b (take m s)) × (records_sound n (s ++ more) ≡ false)
  line_at_fault bad =
      let some = piece_some last s m piece more ends in
      let taken = piece_taken last s m piece more ends in
      (lines_first n first k b (s ++ more) some ∙ rw (taken, bad) (append-nil (record_line n first (k + 1) b (take m s))), sound_first n first (s ++ more) some ∙ rw (taken, bad) refl)

-- ---- the header
module _ (s : List ℕ) (sound : is_none (header_fault s) ≡ true) (more : List ℕ) where
  header_inside : header_length s ≤ length s
  unfolding header_length
  header_inside = omega (arith, header_fits s sound)

  header_sound_lem : (listing_text (s ++ more)
      ≡ header_line s ++ record_lines (header_of s).members (header_of s).first_year 0 (header_length s) (drop (header_length s) s ++ more))
      × (listing_ending (s ++ more) ≡ records_ending (header_of s).members (drop (header_length s) s ++ more))
  unfolding listing_text listing_ending
  header_sound_lem =
      let fits = header_inside in
      let behind = drop-append-le (header_length s) s more fits in
      let of = header_more s more fits in
      let size = length_more s more fits in
      let fault = header_fault_more s more fits in
      (rw (header_line_more s more fits, fault, of, size, behind, sound) refl, rw (fault, of, size, behind, sound) refl)

pub header_at_fault : HeaderAtFault
unfolding listing_text listing_ending
header_at_fault last s bad whole more ends =
    true_or last
    (λ e. rw (ends e, append-nil s, bad) (append-nil (header_line s), refl))
    (λ e. let fits = whole e in rw (header_line_more s more fits, header_fault_more s more fits, bad) (append-nil (header_line s), refl))

-- ---- the chain
so_far : {n first : ℕ} {last : Bool} {came printed left : List ℕ} {records base : ℕ} → Turns n first last came printed records base left
    → (more : List ℕ) → (last ≡ true → more ≡ [])
    → (listing_text (came ++ more) ≡ printed ++ record_lines n first records base (left ++ more)) × (listing_ending (came ++ more) ≡ records_ending n (left ++ more))
so_far (start last s members year sound) more ends = rw (members, year) (header_sound_lem s sound more)
so_far (read {came = before} {left = kept} new last turns) more ends =
    rw (append_assoc before new more, append_assoc kept new more) (so_far turns (new ++ more) (λ e. never (sym e)))
so_far {n} {first} (line {last} {printed = before} {left = kept} {records = k} {base = b} m turns piece sound) more ends =
    let earlier = so_far turns more ends in
    let on = line_sound n first k b last kept m piece more ends sound in
    (earlier.0 ∙ (ap (λ x. before ++ x) on.0 ∙ sym (append_assoc before _ _)), earlier.1 ∙ rw on.1 refl)

pub chunk_by_chunk : ChunkByChunk
chunk_by_chunk n first last came printed left records base turns = so_far turns

pub all_listed : AllListed
all_listed n first last came printed left records base turns end more ends =
    let earlier = so_far turns more ends in
    let none = piece_is last left end in
    let empty : length (left ++ more) ≡ 0 = rw (ends none.0, append-nil left) none.1 in (
      earlier.0 ∙ (ap (λ x. printed ++ x) (lines_none n first records base (left ++ more) empty) ∙ append-nil printed),
      earlier.1 ∙ rw (sound_none n first (left ++ more) empty) refl,
    )

pub listed_to_fault : ListedToFault
listed_to_fault n first last came printed left records base m turns piece bad more ends =
    let earlier = so_far turns more ends in
    let at = line_at_fault n first records base last left m piece more ends bad in
    (earlier.0 ∙ ap (λ x. printed ++ x) at.0, earlier.1 ∙ rw at.1 refl)
