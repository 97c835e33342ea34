-- What is booked, line by line. Assumes nothing.
use mathlib.Core.Path.{◌≡◌, refl, sym, ◌∙◌}
use mathlib.Core.List.{List, [], ◌∷◌, ◌++◌, flat_map}
use Prim.Native.Nat.{ℕ, ◌+◌, ◌*◌, ◌≤◌, ◌<◌}
use native.Mathlib.Omega.{arith}
use native.Mathlib.Nat.{add-zero, zero-add, add_assoc}
use lib.IntN.{ℤ, pos, nat_abs, ◌+ℤ◌}
use lib.ListN.{length, get_or, set, length-set}
use lib.Seq.{get_or-set_same, get_or-set_other, set-set}
use Rattle.arith.specs.Lists.{total}
use Rattle.arith.proofs.Sizes.{abs_plus}
use Rattle.arith.proofs.Tests.{same_or}
use Rattle.arith.proofs.Appends.{flat_append, flat_one, flat_length}
use Rattle.arith.proofs.Writes.{over_more}
use Rattle.rules.specs.Ledger.{line_width, lots_run_place}
use Rattle.rules.specs.Ranges.{contract_count, most_members}
use Rattle.rules.specs.Ledger.{Tables, Line, lots_run, row_place, line_places, line_lots, line_value, posted, line_run, booked}
use Rattle.tables.specs.Fit.{RowsFit}
use Rattle.deal_lines.specs.Lines.{with_line}

-- ---- one more line
posted_more : (amount : Line → ℤ) (ls : List Line) (l : Line) (rows : List ℤ) → posted amount (ls ++ (l ∷ [])) rows ≡ posted amount (l ∷ []) (posted amount ls rows)
unfolding posted
posted_more amount [] l rows = refl
posted_more amount (x ∷ ls) l rows = posted_more amount ls l (set rows (row_place x.contract x.member) (get_or rows (row_place x.contract x.member) (pos 0) +ℤ amount x))

run_more : (ls : List Line) (l : Line) → line_run (ls ++ (l ∷ [])) ≡ line_run ls + nat_abs l.lots
unfolding line_run total
run_more [] l = add-zero (nat_abs l.lots) ∙ sym (zero-add (nat_abs l.lots))
run_more (x ∷ ls) l = rw (run_more ls l) (sym (add_assoc (nat_abs x.lots) (line_run ls) (nat_abs l.lots)))

-- Line i after i others.
pub booked_more : (ls : List Line) (l : Line) (i : ℕ) (t : Tables) → i ≡ length ls → 6 < length t.head → with_line i l (booked ls t).after ≡ (booked (ls ++ (l ∷ [])) t).after
unfolding booked with_line
booked_more ls l i t e h =
    rw (
      e,
      posted_more line_lots ls l t.lots,
      posted_more line_value ls l t.value,
      run_more ls l,
      flat_append line_places ls (l ∷ []),
      flat_one line_places l,
      get_or-set_same t.head lots_run_place (lots_run t + line_run ls) 0 h,
      set-set t.head 6 (lots_run t + line_run ls) (lots_run t + line_run ls + nat_abs l.lots),
      add_assoc (lots_run t) (line_run ls) (nat_abs l.lots),
      over_more (length ls * line_width) (flat_map line_places ls) (line_places l) t.lines (flat_length 4 line_places (λ x. refl) ls),
    )

-- Rows within a bound are, with one more line, within the bound and the line's amount.
pub rows_fit_line : (amount : Line → ℤ) (l : Line) (members bound : ℕ) (rows : List ℤ) → l.contract < contract_count → l.member < members → members ≤ most_members
    → RowsFit members bound rows → RowsFit members (bound + nat_abs (amount l)) (posted amount (l ∷ []) rows)
unfolding posted
rows_fit_line amount l members bound rows c< m< few fit =
    let at = row_place l.contract l.member in
    let old = get_or rows at (pos 0) in
    let here = fit.within l.contract l.member c< m< in
    record {
      long = rw (length-set rows at (old +ℤ amount l)) fit.long;
      within = λ c m a b. same_or (row_place c m) at
          (λ e. rw (e, get_or-set_same rows at (old +ℤ amount l) (pos 0) (omega (arith, fit.long))) (omega (arith, abs_plus old (amount l))))
          (λ e. rw (get_or-set_other rows at (row_place c m) (old +ℤ amount l) (pos 0) e) (omega (arith, fit.within c m a b)));
    }
