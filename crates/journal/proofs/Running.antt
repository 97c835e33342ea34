-- Records run one after the other: what holds before each, and where it ends. Assumes nothing.
use Prim.Native.Nat.{ℕ, suc, ◌+◌, ◌-◌, ◌<◌, ◌≤◌}
use mathlib.Core.Bool.{Bool, true, false, cond, ◌&&◌}
use mathlib.Core.List.{List, [], ◌++◌, append_assoc, append-nil}
use mathlib.Core.Path.{◌≡◌, refl, sym, ap, ◌∙◌}
use native.Mathlib.Omega.{arith}
use borrow.Author.Tests.{ltb-true, ltb-false, eq-eqb}
use lib.Dec.{eqb, ltb}
use mir.Val.{bool_byte}
use Rattle.std.specs.Prelude.{Option, Some, None}
use lib.ListN.{length, take, drop, length-append, length-drop}
use lib.Seq.{take_all, take-append-le, drop-append-le, drop-drop}
use Rattle.arith.proofs.Tests.{never, true_or, and_left, and_right}
use Rattle.rules.specs.declared.event.Front.TheVariants.{Cut}
use Rattle.rules.specs.Answers.{Outcome}
use Rattle.rules.specs.Journal.{end_text, answer_text, stops, accepted_by, next_length, records_text}
use Rattle.rules.specs.Ledger.{Tables}
use Rattle.rules.specs.Records.{front_of}
use Rattle.rules.specs.Refusals.{apply_spec}
use Rattle.text.specs.Wrote.{Wrote}
use Rattle.text.proofs.Writing.{then, wrote_none}
use Rattle.journal.specs.Room.{room_wanted}
use Rattle.journal.specs.declared.record.Printed.{Printed}
use Rattle.journal.specs.declared.stage.Stage.{Stage}
use Rattle.journal.specs.declared.stage.Stage.TheVariants.{Records, Read, Stopped, RecordUnsound}
use Rattle.journal.specs.declared.stage.Wants.{Wants}
use Rattle.journal.specs.declared.stage.Wants.TheVariants.{Nothing, Bytes, Room}
use Rattle.journal.specs.Stages.{RanOne, length_now, ready_length, stage_after, wants_after, remaining, records_end, end_from, after_record, after_records, counted_at, after_stage, Advanced}
use Rattle.accounts.specs.Lengths.{SameLengths}
use Rattle.journal.proofs.Lengths.{ran_keeps}
use Rattle.journal.proofs.Fronts.{now_fits, now_next, now_short, now_none}
use Rattle.journal.proofs.Texts.{records_none, records_next, ends_none, ends_next}

-- ---- parts as the calls were handed them
rest_part : (i : ℕ) (s : List ℕ) → take (length s - i) (drop i s) ≡ drop i s
rest_part i s = take_all (length s - i) (drop i s) (simp length-drop (omega arith))

ready_of_rest : (last stopped : Bool) (room i : ℕ) (s : List ℕ) {r : Option ℕ} → r ≡ ready_length last stopped room (take (length s - i) (drop i s)) → r ≡ ready_length last stopped room (drop i s)
ready_of_rest last stopped room i s e = rw (rest_part i s) at e

ready_now : (last stopped : Bool) (room i : ℕ) (s : List ℕ) {r x : Option ℕ} → r ≡ ready_length last stopped room (take (length s - i) (drop i s)) → r ≡ x
    → ready_length last stopped room (drop i s) ≡ x
ready_now last stopped room i s e f = sym (ready_of_rest last stopped room i s e) ∙ f

ran_part : (i m : ℕ) (s : List ℕ) (t : Tables) {number place : ℕ} {entry exit : List ℕ} {after : Tables} {r : Printed}
    → RanOne number place (apply_spec t (take ((i + m) - i) (drop i s))) entry exit after r → RanOne number place (apply_spec t (take m (drop i s))) entry exit after r
ran_part i m s t w = let e : (i + m) - i ≡ m = omega arith in rw e at w

-- ---- whether a record can be run
-- A record can be run now.
pub ready_says : (last stopped : Bool) (room : ℕ) (s : List ℕ) {m : ℕ} → ready_length last stopped room s ≡ Some m
    → (stopped ≡ false) × (room_wanted ≤ room) × (length_now last s ≡ Some m)
unfolding ready_length
ready_says last true room s h = absurd cc
ready_says last false room s h =
    true_or (ltb room room_wanted) (λ e. let z = rw e at h in absurd cc) (λ e. (refl, ltb-false room room_wanted e, rw e at h))

-- None can: the journal was stopped, or room lacks, or none is there.
pub ready_none : (last : Bool) (room : ℕ) (s : List ℕ) → ready_length last false room s ≡ None → ltb room room_wanted ≡ false → length_now last s ≡ None
unfolding ready_length
ready_none last room s z e = rw e at z

-- One record and those behind it: what they print, how they end, and what is left after the one.
module _ (m : ℕ) (t t' : Tables) (s : List ℕ) (o : Outcome Tables) (e : next_length s ≡ m) (f : apply_spec t (take m s) ≡ o) (g : t' ≡ o.after) where
  next_text : (n k more : ℕ) (u : Bool) → 0 < length s → more ≡ accepted_by o.answer → u ≡ stops o.answer
      → records_text n k t s ≡ answer_text (n + 1) o ++ cond u (end_text (n + 1) (k + more) t') (records_text (n + 1) (k + more) t' (drop m s))
  next_text n k more u h a b = rw (g, a, b) (rw (e, f) at (records_next n k t s h))

  next_end : (u : Bool) → 0 < length s → u ≡ stops o.answer → records_end t s ≡ cond u (record { stage = RecordUnsound; tables = t' }) (records_end t' (drop m s))
  next_end u h b = rw (g, b) (rw (e, f) at (ends_next t s h))

  next_rest : record { tables = t'; bytes = drop m s } ≡ after_record (record { tables = t; bytes = s })
  unfolding after_record
  next_rest = rw (e, f, g) refl

-- What holds before each record: a text is printed, and it, with what is still to be printed, is what was to be printed; so of the
-- tables and the bytes left, and of the end.
pub record Runs (n₀ k₀ : ℕ) (t₀ : Tables) (bytes : List ℕ) (last : Bool) (filled : ℕ) (entry out : List ℕ) (t : Tables) (place end n k : ℕ) (stopped : Bool) : Type 0 where
  pub text : List ℕ
  pub wrote : Wrote filled text entry out end
  pub inside : place ≤ length bytes
  pub within : end ≤ length entry
  pub same : length out ≡ length entry
  pub below : k ≤ n
  pub few : n ≤ n₀ + place
  pub grown : n₀ ≤ n
  pub rest : (more : List ℕ) → (last ≡ true → more ≡ [])
      → records_text n₀ k₀ t₀ (bytes ++ more) ≡ text ++ cond stopped (end_text n k t) (records_text n k t (drop place (bytes ++ more)))
  pub tables : (more : List ℕ) → (last ≡ true → more ≡ [])
      → record { tables = t; bytes = drop place (bytes ++ more) } ≡ after_records (n - n₀) (record { tables = t₀; bytes = bytes ++ more })
  pub ends : (more : List ℕ) → (last ≡ true → more ≡ [])
      → records_end t₀ (bytes ++ more) ≡ cond stopped (record { stage = RecordUnsound; tables = t }) (records_end t (drop place (bytes ++ more)))

pub runs_start : (n k : ℕ) (t : Tables) (bytes : List ℕ) (last : Bool) (filled : ℕ) (entry : List ℕ) → k ≤ n → filled ≤ length entry
    → Runs n k t bytes last filled entry entry t 0 filled n k false
unfolding after_records
runs_start n k t bytes last filled entry b f =
    let none : n - n ≡ 0 = omega arith in
    record {
      text = [];
      wrote = wrote_none filled entry;
      inside = omega arith;
      within = f;
      same = refl;
      below = b;
      few = omega arith;
      grown = omega arith;
      rest = λ more ends. refl;
      tables = λ more ends. rw none refl;
      ends = λ more ends. refl;
    }

-- 1 for an accepted record.
abbrev pub added : Printed → ℕ
added r = cond r.is_accepted 1 0

is_added : (b : Bool) {x : ℕ} → x ≡ bool_byte b → x ≡ cond b 1 0
is_added true e = e
is_added false e = e

added_at_most : (b : Bool) → cond b 1 0 ≤ 1
added_at_most true = omega arith
added_at_most false = omega arith

pub one_at_most : (b : Bool) {x : ℕ} → x ≡ bool_byte b → x ≤ 1
one_at_most true e = omega arith
one_at_most false e = omega arith

module _ {n₀ k₀ : ℕ} {t₀ : Tables} {bytes : List ℕ} {last : Bool} {filled : ℕ} {entry out : List ℕ} {t : Tables} {place end n k : ℕ} {stopped : Bool}
    (w : Runs n₀ k₀ t₀ bytes last filled entry out t place end n k stopped) where
  abbrev left : List ℕ
  left = drop place bytes

  here : (more : List ℕ) → drop place (bytes ++ more) ≡ left ++ more
  here more = drop-append-le place bytes more w.inside

  covered : filled + length w.text ≤ length entry
  covered = omega (arith, w.wrote.after, w.within)

  pub lengths_kept : SameLengths t₀ t
  lengths_kept = ran_keeps (n - n₀) t₀ t (bytes ++ []) (drop place (bytes ++ [])) (w.tables [] (λ e. refl))

  going : stopped ≡ false → (more : List ℕ) → (last ≡ true → more ≡ []) → records_text n₀ k₀ t₀ (bytes ++ more) ≡ w.text ++ records_text n k t (drop place (bytes ++ more))
  going e more ends = rw e at (w.rest more ends)

  -- ---- one record more
  module _ {m : ℕ} (room : ℕ) (is : ready_length last stopped room left ≡ Some m) (roomy : end + room ≡ length out) where
    ready : (stopped ≡ false) × (room_wanted ≤ room) × (length_now last left ≡ Some m)
    ready = ready_says last stopped room left is

    next_some : 0 < m
    next_some = (now_fits last left ready.2).0

    next_inside : place + m ≤ length bytes
    next_inside = let f : m ≤ length left = (now_fits last left ready.2).1 in omega (arith, rw (length-drop place bytes) at f, w.inside)

    next_room : end + room_wanted ≤ length out
    next_room = omega (arith, ready.1)

    module _ {t' : Tables} {out' : List ℕ} {r : Printed} (one : RanOne (n + 1) end (apply_spec t (take m left)) out out' t' r) (kept : length out' ≡ length out) where
      abbrev o : Outcome Tables
      o = apply_spec t (take m left)

      module _ (more : List ℕ) (ends : last ≡ true → more ≡ []) where
        abbrev s : List ℕ
        s = left ++ more

        fits : m ≤ length left
        fits = (now_fits last left ready.2).1

        long : 0 < length s
        long = let f = fits in rw (length-append left more) (omega (arith, next_some))

        next : next_length s ≡ m
        next = now_next last left ready.2 more ends

        same_record : apply_spec t (take m s) ≡ o
        same_record = ap (apply_spec t) (take-append-le m left more fits)

        past : drop m s ≡ drop (place + m) (bytes ++ more)
        past = ap (drop m) (sym (here more)) ∙ drop-drop m place (bytes ++ more)

        behind : records_text n k t (drop place (bytes ++ more))
            ≡ answer_text (n + 1) o ++ cond r.is_unsound (end_text (n + 1) (k + added r) t') (records_text (n + 1) (k + added r) t' (drop (place + m) (bytes ++ more)))
        behind = rw (here more, ← past) (next_text m t t' s o next same_record one.outcome n k (added r) r.is_unsound long (ap (λ b. cond b 1 0) one.accepted) one.unsound)

        behind_end : records_end t (drop place (bytes ++ more))
            ≡ cond r.is_unsound (record { stage = RecordUnsound; tables = t' }) (records_end t' (drop (place + m) (bytes ++ more)))
        behind_end = rw (here more, ← past) (next_end m t t' s o next same_record one.outcome r.is_unsound long one.unsound)

        behind_rest : record { tables = t'; bytes = drop (place + m) (bytes ++ more) } ≡ after_records (n + 1 - n₀) (record { tables = t₀; bytes = bytes ++ more })
        unfolding after_records
        behind_rest =
            let one_more : n + 1 - n₀ ≡ suc (n - n₀) = omega (arith, w.grown) in
            rw (one_more, ← w.tables more ends, here more, ← past) (next_rest m t t' s o next same_record one.outcome)

      runs_next : Runs n₀ k₀ t₀ bytes last filled entry out' t' (place + m) r.end (n + 1) (k + added r) r.is_unsound
      runs_next =
          record {
            text = w.text ++ answer_text (n + 1) o;
            wrote = then w.wrote one.wrote covered;
            inside = next_inside;
            within = omega (arith, one.room, next_room, w.same);
            same = kept ∙ w.same;
            below = omega (arith, w.below, added_at_most r.is_accepted);
            few = omega (arith, w.few, next_some);
            grown = omega (arith, w.grown);
            tables = behind_rest;
            ends = λ more ends. (rw ready.0 at (w.ends more ends)) ∙ behind_end more ends;
            rest = λ more ends.
                going ready.0 more ends ∙ (ap (λ x. w.text ++ x) (behind more ends) ∙ sym (append_assoc w.text (answer_text (n + 1) o) _));
          }

  going_end : stopped ≡ false → (more : List ℕ) → (last ≡ true → more ≡ []) → records_end t₀ (bytes ++ more) ≡ records_end t (drop place (bytes ++ more))
  going_end e more ends = rw e at (w.ends more ends)

  -- ---- no record more
  abbrev End : Stage → Wants → Type 0
  End stage wants = Advanced (Records n₀ k₀) t₀ bytes last filled entry out t (record { used = place; end = end; stage = stage; wants = wants })

  counts : (most : ℕ) → (k₀ ≤ n₀) × (n₀ ≤ most) → (k ≤ n) × (n ≤ most + length bytes)
  counts most c = (w.below, omega (arith, w.few, w.inside))

  end_stopped : stopped ≡ true → End (Stopped n k) Nothing
  unfolding remaining end_from counted_at after_stage
  end_stopped e =
      record {
        text =
            w.text;
        wrote = w.wrote;
        inside = w.inside;
        within = w.within;
        counts = counts;
        asks = λ room f h. omega arith;
        rest = λ more ends. rw e at
            (w.rest more ends);
        tables = w.tables;
        ends = λ more ends. rw e at
            (w.ends more ends);
      }

  end_room : (room : ℕ) → stopped ≡ false → end + room ≡ length out → room < room_wanted → End (Records n k) Room
  unfolding remaining end_from counted_at after_stage
  end_room room e f h =
      record {
        text = w.text;
        wrote = w.wrote;
        inside = w.inside;
        within = w.within;
        counts = counts;
        asks = λ room' g. omega (arith, w.same);
        rest = going e;
        tables = w.tables;
        ends = going_end e;
      }

  end_read : stopped ≡ false → last ≡ true → place ≡ length bytes → End (Read n k) Nothing
  unfolding remaining end_from counted_at after_stage
  end_read e yes-last all =
      let none : (more : List ℕ) → (last ≡ true → more ≡ []) → length (drop place (bytes ++ more)) ≡ 0 =
      λ more ends. rw (ends yes-last, append-nil bytes, length-drop place bytes) (omega arith) in
      record {
        text = w.text;
        wrote = w.wrote;
        inside = w.inside;
        within = w.within;
        counts = counts;
        asks = λ room f h. omega arith;
        rest = λ more ends. going e more ends ∙ ap (λ x. w.text ++ x) (records_none n k t (drop place (bytes ++ more)) (none more ends));
        tables = w.tables;
        ends = λ more ends. going_end e more ends ∙ ends_none t (drop place (bytes ++ more)) (none more ends);
      }

  end_bytes : stopped ≡ false → last ≡ false → front_of left ≡ Cut → End (Records n k) Bytes
  unfolding remaining end_from counted_at after_stage
  end_bytes e not_last cut =
      record {
        text = w.text;
        wrote = w.wrote;
        inside = w.inside;
        within = w.within;
        counts = counts;
        asks = λ room f. (not_last, cut);
        rest = going e;
        tables = w.tables;
        ends = going_end e;
      }

  -- ---- the stage that is told
  module _ (room : ℕ) (read : Bool) (roomy : end + room ≡ length out) (is_read : read ≡ last && eqb place (length bytes)) where
    told_room : stopped ≡ false → ltb room room_wanted ≡ true → End (stage_after n k stopped read room) (wants_after stopped read room)
    unfolding stage_after wants_after
    told_room e f = rw (e, f) (end_room room e roomy (ltb-true room room_wanted f))

    told_read : stopped ≡ false → ltb room room_wanted ≡ false → read ≡ true → End (stage_after n k stopped read room) (wants_after stopped read room)
    unfolding stage_after wants_after
    told_read e f g =
        let both : last && eqb place (length bytes) ≡ true = sym is_read ∙ g in
        rw (e, f, g)
        (end_read e (and_left last (eqb place (length bytes)) both) (borrow.Author.Tests.eqb-true place (length bytes) (and_right last (eqb place (length bytes)) both)))

    told_bytes : stopped ≡ false → ltb room room_wanted ≡ false → read ≡ false → length_now last left ≡ None → End (stage_after n k stopped read room) (wants_after stopped read room)
    unfolding stage_after wants_after
    told_bytes e f g z = rw (e, f, g) (end_bytes e not_last (now_short last left z))
      where
        none_left : last ≡ true → place ≡ length bytes
        none_left y = let gone : length left ≡ 0 = now_none last left z y in omega (arith, rw (length-drop place bytes) at gone, w.inside)

        not_last : last ≡ false
        not_last = true_or last (λ y. never (sym (rw (y, eq-eqb place (length bytes) (none_left y)) at is_read) ∙ g)) (λ y. y)

    told_stopped : stopped ≡ true → End (stage_after n k stopped read room) (wants_after stopped read room)
    unfolding stage_after wants_after
    told_stopped e = rw e (end_stopped e)

    runs_end : {stage : Stage} {wants : Wants} → ready_length last stopped room left ≡ None → stage ≡ stage_after n k stopped read room → wants ≡ wants_after stopped read room → End stage wants
    runs_end none es ew =
        rw (es, ew)
        (true_or stopped told_stopped (λ e. true_or (ltb room room_wanted) (told_room e)
        (λ f. true_or read (told_read e f) (λ g. told_bytes e f g (ready_none last room left (rw e at none) f)))))

  -- ---- as the loop asks for the next record
  module _ {r : Option ℕ} (asked : r ≡ ready_length last stopped (length out - end) (take (length bytes - place) (drop place bytes))) where
    roomy : end + (length out - end) ≡ length out
    roomy = omega (arith, w.within, w.same)

    module _ {m : ℕ} (found : r ≡ Some m) where
      is : ready_length last stopped (length out - end) left ≡ Some m
      is = ready_now last stopped (length out - end) place bytes asked found

      pub found_fits : (0 < m) × (place + m ≤ length bytes) × (end + room_wanted ≤ length out)
      found_fits = (next_some (length out - end) is roomy, next_inside (length out - end) is roomy, next_room (length out - end) is roomy)

      pub found_ran : {t' : Tables} {out' : List ℕ} {p : Printed} {more : ℕ} → RanOne (n + 1) end (apply_spec t (take (place + m - place) (drop place bytes))) out out' t' p
          → length out' ≡ length out → more ≡ bool_byte p.is_accepted → Runs n₀ k₀ t₀ bytes last filled entry out' t' (place + m) p.end (n + 1) (k + more) p.is_unsound
      found_ran {p = p} one kept same = rw (is_added p.is_accepted same) (runs_next (length out - end) is roomy (ran_part place m bytes t one) kept)

    pub none_found : {read : Bool} {stage : Stage} {wants : Wants} → r ≡ None → read ≡ last && eqb place (length bytes)
        → stage ≡ stage_after n k stopped read (length out - end) → wants ≡ wants_after stopped read (length out - end) → End stage wants
    none_found {read} none e es ew = runs_end (length out - end) read roomy e (ready_now last stopped (length out - end) place bytes asked none) es ew
