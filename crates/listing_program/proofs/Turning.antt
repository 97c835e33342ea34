-- The places after the header and after a record. Assumes nothing.
use Prim.Native.Nat.{ℕ, ◌+◌, ◌<◌, ◌≤◌}
use native.Mathlib.Omega.{arith}
use Rattle.streams.specs.declared.window.Window.{Window}
use Rattle.streams.specs.Windows.{Within}
use Rattle.listing_program.specs.declared.shell.Place.{Place}
use Rattle.listing_program.specs.Places.{input_length, output_length, most_turns, Stands}

pub listed_stands : (p : Place) (size end : ℕ) → Stands p → p.turns < most_turns → p.window.from + size ≤ p.window.end → end ≤ output_length
    → Stands
    (record {
      turns = p.turns + 1;
      window =
          record { from = p.window.from + size; end = p.window.end; is_last = p.window.is_last; filled = end; progress = p.window.progress };
      records = p.records + 1;
      base = p.base + size;
    })
listed_stands p size end s few h e = record {
  within = record { before = h; inside = s.within.inside; printed = e };
  counted = omega (arith, s.counted);
  passed = omega (arith, s.passed, s.within.inside);
  few = omega arith;
}

pub first_stands : (w : Window) (size end : ℕ) → Within input_length output_length w → w.from + size ≤ w.end → end ≤ output_length
    → Stands
    (record {
      turns = 0;
      window = record { from = w.from + size; end = w.end; is_last = w.is_last; filled = end; progress = w.progress };
      records = 0;
      base = size;
    })
first_stands w size end s h e = record {
  within = record { before = h; inside = s.inside; printed = e };
  counted = omega arith;
  passed = omega (arith, s.inside);
  few = omega arith;
}
