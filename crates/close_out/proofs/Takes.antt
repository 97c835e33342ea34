-- Tables still can take lines after a member's change. Assumes nothing.
use Prim.Native.Nat.{ℕ, suc, ◌+◌, ◌<◌}
use mathlib.Core.Path.{◌≡◌, refl, ◌∙◌}
use mathlib.Core.List.{List, [], ◌∷◌}
use native.Mathlib.Nat.{zero-add}
use lib.IntN.{ℤ, nat_abs}
use Rattle.arith.proofs.Tests.{same_or}
use Rattle.rules.specs.Default.{change_lines}
use Rattle.rules.specs.Ledger.{Tables, Line}
use Rattle.rules.specs.Ranges.{least_lines}
use Rattle.tables.specs.Fit.{members_in}
use Rattle.deal_lines.specs.Lines.{LineFit, with_line}
use Rattle.close_out.specs.Booking.{with_each}
use Rattle.close_out.proofs.Changes.{change_none, change_one, each_none, each_one}
use Rattle.deal_lines.proofs.Takes.{Takes, takes_line, line_members}

-- One member's change: a line or none.
pub takes_change : (room i c p m : ℕ) (z : ℤ) (t : Tables) → i < least_lines → LineFit t.head (record { member = m; contract = c; lots = z; price = p })
    → Takes (nat_abs z + room) t → Takes room (with_each i (change_lines c p m (z ∷ [])) t)
takes_change room i c p m z t below ok f =
    same_or (nat_abs z) 0
    (λ e. rw (change_none c p m z e, each_none i t) (rw (e, zero-add room) at f))
    (λ d. rw (change_one c p m z d, each_one i (record { member = m; contract = c; lots = z; price = p }) t) (takes_line room i _ t below ok f))

pub each_members : (i : ℕ) (ls : List Line) (t : Tables) → members_in (with_each i ls t).head ≡ members_in t.head
unfolding with_each
each_members i [] t = refl
each_members i (l ∷ ls) t = each_members (suc i) ls (with_line i l t) ∙ line_members i l t
