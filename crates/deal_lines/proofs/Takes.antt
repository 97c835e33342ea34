-- Tables that can take lines still can, with less room, after one. Assumes nothing.
use Prim.Native.Nat.{ℕ, ◌+◌, ◌*◌, ◌≤◌, ◌<◌}
use mathlib.Core.Path.{◌≡◌}
use mathlib.Core.List.{List}
use native.Mathlib.Omega.{arith}
use native.Mathlib.Nat.{mul-le-mul_left}
use lib.IntN.{ℤ, pos, nat_abs}
use lib.ListN.{length, length-set}
use lib.Seq.{get_or-set_same, get_or-set_other}
use Rattle.arith.proofs.Overs.{over_length}
use Rattle.arith.proofs.Sizes.{abs_times}
use Rattle.rules.specs.Ledger.{Tables, Line, head_length, members_place, lots_run_place, with_lots_run, lots_run, members, line_width, line_places, line_lots, line_value}
use Rattle.rules.specs.Ranges.{most_price, most_lots_run, least_lines}
use Rattle.deal_lines.proofs.Booked.{rows_fit_line}
use Rattle.tables.specs.Fit.{RowsFit, members_in, lots_run_in}
use Rattle.deal_lines.specs.Lines.{LineFit, with_line}
use Rattle.deal_lines.specs.Room.{Bookable}

-- ---- the head with another lots run
run_read : (head : List ℕ) (run : ℕ) → head_length ≤ length head → lots_run_in (with_lots_run run head) ≡ run
run_read head run long = get_or-set_same head lots_run_place run 0 (omega arith)

members_read : (head : List ℕ) (run : ℕ) → members_in (with_lots_run run head) ≡ members_in head
members_read head run = get_or-set_other head lots_run_place members_place run 0 (λ e. omega arith)

-- ---- tables that take lines
abbrev pub Takes : ℕ → Tables → Type 0
Takes room t = Bookable room t.head t.lots t.value t.lines

worth_less : (run : ℕ) (l : Line) → l.price ≤ most_price → nat_abs (line_value l) ≤ most_price * nat_abs l.lots
worth_less run l h = rw (abs_times l.lots (pos l.price)) (omega (arith, mul-le-mul_left (nat_abs l.lots) h))

pub rows_wider : (n a b : ℕ) (rows : List ℤ) → a ≤ b → RowsFit n a rows → RowsFit n b rows
rows_wider n a b rows h f = record { long = f.long; within = λ c m p q. omega (arith, f.within c m p q) }

pub takes_line : (room i : ℕ) (l : Line) (t : Tables) → i < least_lines → LineFit t.head l → Takes (nat_abs l.lots + room) t → Takes room (with_line i l t)
unfolding with_line
takes_line room i l t below ok f =
    let head = t.head in
    let run = lots_run t + nat_abs l.lots in
    let few = f.most_members_holds in
    let e = run_read head run f.long in
    let m = members_read head run in
    record {
      long = rw (length-set head lots_run_place run) f.long;
      most_members_holds = rw m few;
      lots_fit = rw (e, m) (rows_fit_line line_lots l (members t) (lots_run t) t.lots ok.contract_below ok.member_below few f.lots_fit);
      value_fit = rw (e, m)
          (rows_wider (members t) _ (most_price * run) _ (omega (arith, worth_less run l ok.most_price_holds))
          (rows_fit_line line_value l (members t) (most_price * lots_run t) t.value ok.contract_below ok.member_below few f.value_fit));
      lines_long = rw (over_length (i * line_width) (line_places l) t.lines (omega (arith, f.lines_long))) f.lines_long;
      most_run = rw e (omega (arith, f.most_run));
    }

pub with_room : (a b : ℕ) {head : List ℕ} {lots value lines : List ℤ} → lots_run_in head + b ≤ most_lots_run → Bookable a head lots value lines → Bookable b head lots value lines
with_room a b h f = record { long = f.long; most_members_holds = f.most_members_holds; lots_fit = f.lots_fit; value_fit = f.value_fit; lines_long = f.lines_long; most_run = h }

pub less_room : (a b : ℕ) {head : List ℕ} {lots value lines : List ℤ} → a ≤ b → Bookable b head lots value lines → Bookable a head lots value lines
less_room a b h f = with_room b a (omega (arith, f.most_run)) f

-- A line changes no member count.
pub line_members : (i : ℕ) (l : Line) (t : Tables) → members_in (with_line i l t).head ≡ members_in t.head
unfolding with_line
line_members i l t = members_read t.head (lots_run t + nat_abs l.lots)
