-- Changes of members booked one after the other: what holds when those before member m are booked. Assumes nothing.
use Prim.Native.Nat.{ℕ, ◌+◌, ◌≤◌, ◌<◌}
use mathlib.Core.Path.{◌≡◌, sym, ap, subst, ◌∙◌}
use mathlib.Core.List.{List, [], ◌∷◌, ◌++◌}
use native.Mathlib.Omega.{arith}
use lib.IntN.{ℤ, pos, nat_abs, ◌-ℤ◌}
use lib.ListN.{length, get_or, drop, length-append}
use Rattle.rules.specs.Default.{sum_of, change_lines}
use Rattle.rules.specs.Ledger.{Tables, Line, with_head, with_rows, with_lines}
use Rattle.rules.specs.Ranges.{contract_count, most_price, least_lines}
use Rattle.tables.specs.Fit.{members_in}
use Rattle.close_out.specs.Booking.{with_each, changes}
use Rattle.close_out.proofs.Changes.{minus_size, change_most, each_append, lines_next, sum_next}
use Rattle.deal_lines.proofs.Takes.{Takes, less_room}
use Rattle.close_out.proofs.Takes.{takes_change, each_members}

-- The lent tables put into others.
abbrev pub put : List ℕ → List ℤ → List ℤ → List ℤ → Tables → Tables
put head lots value lines t = with_head head (with_rows lots value (with_lines lines t))

pub blank : Tables
blank = record { head = []; prices = []; lots = []; value = []; book = []; lines = [] }

module _ (c p i : ℕ) (gains losses : List ℕ) (start : Tables) where
  abbrev rest : ℕ → List Line
  rest m = change_lines c p m (changes (drop m gains) (drop m losses))

  pub record Running (t : Tables) (at m : ℕ) : Type 0 where
    pub within : m ≤ length gains
    pub few : at ≤ i + m
    pub members : length gains ≡ members_in t.head
    pub takes : Takes (sum_of (drop m gains) + sum_of (drop m losses)) t
    pub count : at + length (rest m) ≡ i + length (rest 0)
    pub same : with_each at (rest m) t ≡ with_each i (rest 0) start

  module _ (alike : length losses ≡ length gains) (c< : c < contract_count) (p≤ : p ≤ most_price) (room : i + length gains ≤ least_lines)
      (t : Tables) (at m : ℕ) (now : Running t at m) (more : m < length gains) where
    abbrev change : ℤ
    change = pos (get_or gains m 0) -ℤ pos (get_or losses m 0)

    abbrev one : List Line
    one = change_lines c p m (change ∷ [])

    one_rest : rest m ≡ one ++ rest (m + 1)
    one_rest = lines_next gains losses m more (omega arith) c p

    module _ (t' : Tables) (at' : ℕ) (after : t' ≡ with_each at one t) (counted : at' ≡ at + length one) where
      still : Takes (sum_of (drop (m + 1) gains) + sum_of (drop (m + 1) losses)) t'
      still =
          let rest = sum_of (drop (m + 1) gains) + sum_of (drop (m + 1) losses) in
          let fits : Takes (nat_abs change + rest) t =
          less_room _ _ (omega (arith, minus_size (get_or gains m 0) (get_or losses m 0), sum_next gains m more, sum_next losses m (omega arith))) now.takes in
          subst (λ (s : Tables). Takes rest s) (sym after)
          (takes_change rest at c p m change t (omega (arith, now.few)) (record { contract_below = c<; member_below = omega (arith, now.members); most_price_holds = p≤ }) fits)

      pub running_next : Running t' at' (m + 1)
      running_next =
          record {
            within = omega arith;
            few = omega (arith, now.few, change_most c p m change);
            members = now.members ∙ sym (ap (λ (s : Tables). members_in s.head) after ∙ each_members at one t);
            takes = still;
            count = omega (arith, now.count, ap length one_rest, length-append one (rest (m + 1)));
            same = rw (counted, after, ← each_append at one (rest (m + 1)) t, ← one_rest) now.same;
          }
