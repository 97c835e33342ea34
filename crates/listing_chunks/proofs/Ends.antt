-- From record to record, and after the header: a listing ends as the journal does. Assumes nothing.
use Prim.Native.Nat.{ℕ, zero, suc, ◌<◌, ◌≤◌}
use mathlib.Core.Bool.{Bool, true, false, not}
use mathlib.Core.List.{List, [], ◌∷◌, ◌++◌}
use mathlib.Core.Path.{◌≡◌, refl, sym, ap, ◌∙◌}
use native.Mathlib.Omega.{arith}
use borrow.Author.Tests.{le-leb}
use lib.Dec.{T}
use lib.ListN.{length, take, drop, length-drop}
use Rattle.arith.proofs.Tests.{true_or, le_or_lt}
use Rattle.rules.specs.Accounts.{Call, call_spec, after}
use Rattle.rules.specs.Header.{header_of, header_length, members_sound, begins_with_header}
use Rattle.rules.specs.Journal.{next_length}
use Rattle.rules.specs.Ledger.{Tables, members, ledger_short, lines_short}
use Rattle.rules.specs.Ranges.{most_members}
use Rattle.rules.specs.Refusals.{ledger_unsound, unsound, apply_spec, make_spec}
use Rattle.rules.proofs.SoundHeaders.{header_gives, begun}
use Rattle.rules.proofs.SoundTables.{long_enough}
use Rattle.accounts.proofs.Events.{apply_shows}
use Rattle.accounts.proofs.Fresh.{fresh_runs}
use Rattle.accounts.proofs.LengthsStay.{lengths_stay, making_keeps_lengths}
use Rattle.accounts.proofs.NeverDamaged.{never_damaged}
use Rattle.accounts.proofs.Runs.{Runs}
use Rattle.accounts.proofs.TwoBookkeepers.{made}
use Rattle.journal.specs.Stages.{records_end, journal_end_on}
use Rattle.journal.proofs.Fronts.{next_some}
use Rattle.journal.proofs.Texts.{ends_none, ends_next}
use Rattle.listing.proofs.HeaderFaults.{header_exact}
use Rattle.listing_words.specs.Fields.{is_none, fault_of, header_fault}
use Rattle.listing_chunks.specs.Listings.{records_ending, listing_ending}
use Rattle.listing_chunks.specs.Stops.{SameEnd, read_to_end, header_unsound, record_unsound, StopsWithTheJournal}
use Rattle.listing_chunks.proofs.Chunks.{sound_none, sound_first}
use Rattle.listing_chunks.proofs.Stops.{stops_at_fault}

is_true : {b : Bool} → b ≡ true → T b
is_true e = rw e tt

is_false : {b : Bool} → b ≡ false → T (not b)
is_false e = rw e tt

after_one_more : (t : Tables) (calls : List Call) (call : Call) → after t (calls ++ (call ∷ [])) ≡ (call_spec (after t calls) call).after
unfolding after
after_one_more t [] call = refl
after_one_more t (x ∷ calls) call = after_one_more (call_spec t x).after calls call

module _ (header : List ℕ) (t₀ : Tables) (begins : begins_with_header header ≡ true) (long : ledger_short t₀ ≡ false) where
  abbrev first : Tables
  first = (make_spec t₀ header).after

  -- Tables that a list of calls leads to from the header.
  record Led (t : Tables) : Type 0 where
    pub calls : List Call
    pub is : t ≡ after first calls
    pub today : ℕ
    pub runs : Runs (header_of header) today t
    pub lines : lines_short t ≡ false

  few_members : members_sound (header_of header).members ≡ true
  few_members =
      let f = header_gives (header_of header) (begun header begins) in
      let m = (header_of header).members in
      rw (le-leb 1 m f.members_range.from) (le-leb m most_members f.members_range.to)

  led_sound : (t : Tables) → Led t → unsound t ≡ false
  unfolding unsound ledger_unsound
  led_sound t l =
      let whole = never_damaged header t₀ l.calls (is_true begins) (is_false long) in
      let short : ledger_short t ≡ false = ap ledger_short l.is ∙ whole.0 in
      rw (short, l.is, whole.1, ← l.is, l.lines) refl

  led_first : lines_short t₀ ≡ false → Led first
  unfolding after lines_short
  led_first e =
      record {
        calls = [];
        is = refl;
        today = (header_of header).start_day;
        runs =
            rw (made header t₀ (is_true begins) (is_false long))
            (fresh_runs (header_of header) t₀ (header_gives (header_of header) (begun header begins)) (long_enough t₀ long).head);
        lines = rw (making_keeps_lengths t₀ header).lines e;
      }

  led_next : (t : Tables) (bytes : List ℕ) → Led t → Led (apply_spec t bytes).after
  unfolding lines_short
  led_next t bytes l =
      let call : Call = record { bytes = bytes; lines = t.lines } in
      record {
        calls = l.calls ++ (call ∷ []);
        is = ap (λ (u : Tables). (call_spec u call).after) l.is ∙ sym (after_one_more first l.calls call);
        today = _;
        runs = (apply_shows (header_of header) l.today t bytes l.runs).runs;
        lines = rw (lengths_stay t bytes).lines l.lines;
      }

  abbrev SameFrom : Tables → List ℕ → Type 0
  SameFrom t s = SameEnd (records_end t s).stage (records_ending (header_of header).members s)

  no_record : (t : Tables) (s : List ℕ) → length s ≡ 0 → SameFrom t s
  no_record t s z = rw (ends_none t s z, sound_none (header_of header).members 0 s z) read_to_end

  one_record : (t : Tables) (s : List ℕ) → Led t → 0 < length s → SameFrom (apply_spec t (take (next_length s) s)).after (drop (next_length s) s) → SameFrom t s
  one_record t s l some behind =
      let n = (header_of header).members in
      let size = l.runs.size in
      let at = rw size at (stops_at_fault t s (led_sound t l) (rw size few_members) some) in
      true_or (is_none (fault_of n (take (next_length s) s))) (λ e. rw (ends_next t s some, sound_first n 0 s some, at, e) behind)
      (λ e. rw (ends_next t s some, sound_first n 0 s some, at, e) record_unsound)

  records_end_lem : (fuel : ℕ) (t : Tables) (s : List ℕ) → length s ≤ fuel → Led t → SameFrom t s
  records_end_lem zero t s h l = no_record t s (omega arith)
  records_end_lem (suc f) t s h l =
      le_or_lt (length s) 0 (λ z. no_record t s (omega arith))
      (λ some. let m = next_length s in
      one_record t s l some
      (records_end_lem f (apply_spec t (take m s)).after (drop m s) (rw (length-drop m s) (omega (arith, next_some s some))) (led_next t (take m s) l)))

pub stops_with_the_journal : StopsWithTheJournal
unfolding journal_end_on listing_ending make_spec
stops_with_the_journal t s long lines =
    true_or (begins_with_header s)
    (λ e. let same : is_none (header_fault s) ≡ true = sym (header_exact s) ∙ e in
    let behind = drop (header_length s) s in
    let led = led_first s t e long lines in
    rw (same, long, e) (rw (made s t (is_true e) (is_false long)) at (records_end_lem s t e long (length behind) _ behind (omega arith) led)))
    (λ e. let same : is_none (header_fault s) ≡ false = sym (header_exact s) ∙ e in rw (same, long, e) header_unsound)
