-- Which contracts are open, by their first delivery days beside the least one of their kind. Assumes nothing.
use Prim.Native.Nat.{ℕ, ◌+◌, ◌*◌, ◌-◌, ◌≤◌, ◌<◌}
use mathlib.Core.Path.{◌≡◌, sym, ap, ◌∙◌}
use mathlib.Core.Bool.{true, not, cond}
use native.Mathlib.Omega.{arith}
use lib.Dec.{leb, ltb}
use lib.ListN.{get_or}
use borrow.Author.Tests.{le-leb, lt-leb, le-ltb, lt-ltb}
use Rattle.arith.proofs.Tests.{le_or_lt}
use Rattle.rules.specs.declared.contract.Term.{Term}
use Rattle.rules.specs.Ranges.{term_count}
use Rattle.rules.specs.Days.{Calendar}
use Rattle.rules.specs.ContractTerms.{open_count, closing_distance, months_in, term_of, term_first_day, term_day_after, days_of, still_to_close, open_on}
use Rattle.rules.specs.OtherForms.{nth, open_by_count}
use Rattle.rules.proofs.CalendarLaws.{open_by_count_lem, open_rank}
use Rattle.months.specs.Spans.{starts_of}
use Rattle.months.proofs.Starts.{start_read}
use Rattle.contracts.specs.InLedger.{InLedger}
use Rattle.contracts.proofs.InLedger.{earlier}
use Rattle.contract_phases.specs.Least.{IsLeast}
use Rattle.contract_phases.proofs.Least.{to_close_from}

not_leb : (x y : ℕ) → ltb x y ≡ not (leb y x)
not_leb x y = le_or_lt y x (λ h. rw (le-leb y x h) (le-ltb x y h)) (λ h. rw (lt-leb y x h) (lt-ltb x y h))

pub after_read : (k : Calendar) (t : Term) → InLedger t → get_or (starts_of k) (months_in t.kind * t.index + months_in t.kind) 0 ≡ term_day_after k t
unfolding term_day_after
after_read k t w = start_read k (months_in t.kind * t.index + months_in t.kind) w

-- Where it is still to close and not among the first of its kind, the one that must have closed before it opens decides.
pub open_from : (k : Calendar) (t : Term) → InLedger t → (d least : ℕ) → IsLeast k d (closing_distance t.kind) least → still_to_close k d t ≡ true → open_count t.kind ≤ t.index
    → ltb (get_or (starts_of k) (months_in t.kind * (t.index - open_count t.kind)) 0) least ≡ open_by_count k d t
open_from k t w d least g c l =
    let i = t.index - open_count t.kind in
    let first = get_or (starts_of k) (months_in t.kind * i) 0 in
    not_leb first least ∙ ap not (sym (to_close_from k (nth t.kind i) (earlier t i (omega arith) w) d least g)) ∙ sym (open_rank k d t c l)

-- The same by contract numbers, with the days.
pub days_by_number : (k : Calendar) (d c : ℕ) → c < term_count
    → cond (open_by_count k d (term_of c)) (term_day_after k (term_of c) - term_first_day k (term_of c)) 0 ≡ cond (open_on k d c) (days_of k c) 0
unfolding days_of
days_by_number k d c h = rw (open_by_count_lem k d c h, lt-ltb c term_count h)
