-- A ledger made from a sound header: its head says the header, its book is empty, its rows are zero.
use mathlib.Core.Path.{◌≡◌, sym, ap, ◌∙◌}
use mathlib.Core.List.{List, [], ◌∷◌, ◌++◌}
use Prim.Native.Nat.{ℕ, zero, suc, ◌+◌, ◌*◌, ◌≤◌, ◌<◌}
use native.Mathlib.Omega.{arith}
use native.Mathlib.Nat.{suc-mul, zero-add}
use lib.ListN.{length, get_or, take, drop, replicate, length-take, length-drop, length-replicate, get_or-replicate, get_or-append}
use lib.Seq.{get_or-append-add, get_or-take, get_or-drop, ext_get_or}
use lib.IntN.{ℤ, pos}
use Rattle.arith.specs.Lists.{over, in_each_block, from}
use Rattle.arith.proofs.Overs.{over_length, over_inside, over_outside}
use Rattle.rules.specs.Ledger.{head_length, limits_from, marks_from, row_width, rows_length, submits_from, holidays_from, first_year_place, members_place, holiday_count_place, day_place, time_place, accepted_submits_place, lots_run_place, order_count_place}
use Rattle.rules.specs.Ranges.{contract_count, most_members}
use Rattle.rules.specs.Header.{Header}
use Rattle.rules.specs.Ledger.{Tables, orders, fresh_head, fresh_rows, fresh}
use Rattle.rules.specs.Accounts.{Column, lots, value, row}
use Rattle.rules.proofs.SoundHeaders.{SoundHeader}
use Rattle.accounts.proofs.Runs.{Runs}

-- ---- rows
module _ (n : ℕ) (l : List ℤ) (b : n ≤ most_members) (s : row_width ≤ length l) where
  block_fits : 0 + length (replicate n (pos 0)) ≤ length (take row_width l)
  block_fits = simp (length-take, length-replicate) (omega arith)

  zero_block : length (over 0 (replicate n (pos 0)) (take row_width l)) ≡ row_width
  zero_block = over_length 0 (replicate n (pos 0)) (take row_width l) block_fits ∙ simp length-take (omega arith)

fresh_row : (n cs : ℕ) (l : List ℤ) (c m : ℕ) → n ≤ most_members → cs * row_width ≤ length l → c < cs → m < n → get_or (in_each_block row_width (over 0 (replicate n (pos 0))) cs l) (c * row_width + m) (pos 0) ≡ pos 0
unfolding in_each_block
fresh_row n zero l c m b s k q = absurd (omega arith)
fresh_row n (suc cs) l zero m b s k q =
    let long : row_width ≤ length l = omega (arith, suc-mul cs row_width) in
    get_or-append (over 0 (replicate n (pos 0)) (take row_width l)) (in_each_block row_width (over 0 (replicate n (pos 0))) cs (drop row_width l)) (pos 0) (0 + m) (omega (arith, zero_block n l b long))
    ∙ over_inside 0 (replicate n (pos 0)) (take row_width l) (block_fits n l b long) m (pos 0) (omega (arith, length-replicate n (pos 0))) ∙ get_or-replicate n m (pos 0) (pos 0) q
fresh_row n (suc cs) l (suc c) m b s k q =
    let long : row_width ≤ length l = omega (arith, suc-mul cs row_width) in
    let first = over 0 (replicate n (pos 0)) (take row_width l) in
    let rest = in_each_block row_width (over 0 (replicate n (pos 0))) cs (drop row_width l) in
    ap (λ p. get_or (first ++ rest) p (pos 0)) (omega (arith, zero_block n l b long, suc-mul c row_width)) ∙ get_or-append-add first rest (c * row_width + m) (pos 0)
    ∙ fresh_row n cs (drop row_width l) c m b (simp length-drop (omega (arith, suc-mul cs row_width))) (omega arith) q

pub fresh_zero : (h : Header) (t : Tables) → SoundHeader h → rows_length ≤ length t.lots → rows_length ≤ length t.value → (x : Column) (c m : ℕ) → c < contract_count → m < h.members
    → row x (fresh h t) c m ≡ pos 0
unfolding fresh fresh_rows
fresh_zero h t f a v lots c m b q = fresh_row h.members contract_count t.lots c m f.members_range.to a b q
fresh_zero h t f a v value c m b q = fresh_row h.members contract_count t.value c m f.members_range.to v b q

-- ---- the head: fields, holidays, limits, marks and counts are written one part after the other
module _ (h : Header) (f : SoundHeader h) (l : List ℕ) (long : head_length ≤ length l) where
  fields : List ℕ
  fields = h.first_year ∷ h.members ∷ length h.holidays ∷ h.start_day ∷ 0 ∷ 0 ∷ 0 ∷ 0 ∷ []

  zeros : List ℕ
  zeros = replicate h.members 0

  h₀ : List ℕ
  h₀ = over 0 fields l

  h₁ : List ℕ
  h₁ = over holidays_from h.holidays h₀

  h₂ : List ℕ
  h₂ = over limits_from h.limits h₁

  h₃ : List ℕ
  h₃ = over marks_from zeros h₂

  zeros_length : length zeros ≡ h.members
  unfolding zeros
  zeros_length = length-replicate {A = ℕ} h.members 0

  length₀ : length h₀ ≡ length l
  unfolding h₀ fields
  length₀ = over_length 0 fields l (omega arith)

  length₁ : length h₁ ≡ length l
  unfolding h₁
  length₁ = over_length holidays_from h.holidays h₀ (omega (arith, f.holidays≤, length₀)) ∙ length₀

  length₂ : length h₂ ≡ length l
  unfolding h₂
  length₂ = over_length limits_from h.limits h₁ (omega (arith, f.members_range.to, f.one_limit, length₁)) ∙ length₁

  length₃ : length h₃ ≡ length l
  unfolding h₃
  length₃ = over_length marks_from zeros h₂ (omega (arith, f.members_range.to, zeros_length, length₂)) ∙ length₂

  pub head_length_lem : length (fresh_head h l) ≡ length l
  unfolding fresh_head h₃ h₂ h₁ h₀ zeros fields
  head_length_lem = over_length submits_from zeros h₃ (omega (arith, f.members_range.to, zeros_length, length₃)) ∙ length₃

  -- below the limits' places
  front_of : (i : ℕ) → i < limits_from → get_or (fresh_head h l) i 0 ≡ get_or h₁ i 0
  unfolding fresh_head h₃ h₂ h₁ h₀ zeros fields
  front_of i b =
      over_outside submits_from zeros h₃ (omega (arith, f.members_range.to, zeros_length, length₃)) i 0 (λ q. absurd (omega arith))
      ∙ over_outside marks_from zeros h₂ (omega (arith, f.members_range.to, zeros_length, length₂)) i 0 (λ q. absurd (omega arith))
      ∙ over_outside limits_from h.limits h₁ (omega (arith, f.members_range.to, f.one_limit, length₁)) i 0 (λ q. absurd (omega arith))

  field_of : (i : ℕ) → i < holidays_from → get_or (fresh_head h l) i 0 ≡ get_or fields i 0
  unfolding h₁ h₀ fields
  field_of i b =
      front_of i (omega arith) ∙ over_outside holidays_from h.holidays h₀ (omega (arith, f.holidays≤, length₀)) i 0 (λ q. absurd (omega arith))
      ∙ ap (λ p. get_or h₀ p 0) (sym (zero-add i)) ∙ over_inside 0 fields l (omega arith) i 0 (omega arith)

  holidays_of : take (length h.holidays) (drop holidays_from (fresh_head h l)) ≡ h.holidays
  unfolding h₁
  holidays_of =
      ext_get_or 0 (take (length h.holidays) (drop holidays_from (fresh_head h l))) h.holidays length_of
      (λ i b. let q : i < length h.holidays = omega (arith, length_of) in
      get_or-take (length h.holidays) (drop holidays_from (fresh_head h l)) i 0 q ∙ get_or-drop holidays_from (fresh_head h l) i 0 ∙ front_of (holidays_from + i) (omega (arith, f.holidays≤))
      ∙ over_inside holidays_from h.holidays h₀ (omega (arith, f.holidays≤, length₀)) i 0 q)
    where
      length_of : length (take (length h.holidays) (drop holidays_from (fresh_head h l))) ≡ length h.holidays
      length_of = simp (length-take, length-drop) (omega (arith, f.holidays≤, head_length_lem))

  -- time and counts are 0
  pub counts_of : (get_or (fresh_head h l) time_place 0 ≡ 0) × (get_or (fresh_head h l) accepted_submits_place 0 ≡ 0) × (get_or (fresh_head h l) lots_run_place 0 ≡ 0) × (get_or (fresh_head h l) order_count_place 0 ≡ 0)
  unfolding fields
  counts_of = (field_of time_place (omega arith), field_of accepted_submits_place (omega arith), field_of lots_run_place (omega arith), field_of order_count_place (omega arith))

  pub holiday_count_of : get_or (fresh_head h l) 2 0 ≡ length h.holidays
  unfolding fields
  holiday_count_of = field_of holiday_count_place (omega arith)

  -- a member has the header's limit, no mark and no submits
  module _ (m : ℕ) (m< : m < h.members) where
    pub limit_of : get_or (fresh_head h l) (limits_from + m) 0 ≡ get_or h.limits m 0
    unfolding fresh_head h₃ h₂ h₁ h₀ zeros fields
    limit_of =
        over_outside submits_from zeros h₃ (omega (arith, f.members_range.to, zeros_length, length₃)) (limits_from + m) 0 (λ q. absurd (omega (arith, f.members_range.to)))
        ∙ over_outside marks_from zeros h₂ (omega (arith, f.members_range.to, zeros_length, length₂)) (limits_from + m) 0 (λ q. absurd (omega (arith, f.members_range.to)))
        ∙ over_inside limits_from h.limits h₁ (omega (arith, f.members_range.to, f.one_limit, length₁)) m 0 (omega (arith, f.one_limit))

    pub mark_of : get_or (fresh_head h l) (marks_from + m) 0 ≡ 0
    unfolding fresh_head h₃ h₂ h₁ h₀ zeros fields
    mark_of =
        over_outside submits_from zeros h₃ (omega (arith, f.members_range.to, zeros_length, length₃)) (marks_from + m) 0 (λ q. absurd (omega (arith, f.members_range.to)))
        ∙ over_inside marks_from zeros h₂ (omega (arith, f.members_range.to, zeros_length, length₂)) m 0 (omega (arith, zeros_length)) ∙ get_or-replicate h.members m 0 0 m<

    pub submits_of : get_or (fresh_head h l) (submits_from + m) 0 ≡ 0
    unfolding fresh_head h₃ h₂ h₁ h₀ zeros fields
    submits_of = over_inside submits_from zeros h₃ (omega (arith, f.members_range.to, zeros_length, length₃)) m 0 (omega (arith, zeros_length)) ∙ get_or-replicate h.members m 0 0 m<

-- the fresh ledger, on its start day
pub fresh_runs : (h : Header) (t : Tables) → SoundHeader h → head_length ≤ length t.head → Runs h h.start_day (fresh h t)
unfolding fresh fields orders from
fresh_runs h t f b =
    let field : (i : ℕ) → i < holidays_from → get_or (fresh_head h t.head) i 0 ≡ get_or (fields h f t.head b) i 0 = field_of h f t.head b in
    record {
      year = field first_year_place (omega arith);
      size = field members_place (omega arith);
      days = ap (λ n. take n (drop holidays_from (fresh_head h t.head))) (field holiday_count_place (omega arith)) ∙ holidays_of h f t.head b;
      today = field day_place (omega arith);
      resting = rw (field order_count_place (omega arith)) tt;
    }
