use Prim.Native.Nat.{◌+◌, ◌-◌, ◌%◌}
use mathlib.Core.Path.{◌≡◌}
use native.Mathlib.Omega.{arith}
use borrow.Author.Tests.{lt-ltb, le-leb, eq-eqb, ne_eqb}
use Rattle.rules.specs.Ranges.{term_count, contracts_in_year, quarters_in_year, months_in_quarter, first_quarter, last_quarter}
use Rattle.rules.specs.ContractTerms.{children_of}
use Rattle.rules.specs.OtherForms.{first_month_of}
use Rattle.rules.specs.CloseOfDay.{cascaded}
use Rattle.cascade.proofs.rows.cascade.Goals as goal

pub returns-then-k-eq0 : goal.returns-then-k-eq0
unfolding cascaded children_of
returns-then-k-eq0 c =
    let x = c.args.contract in
    let first = x + first_quarter in
    let four : first + quarters_in_year - first ≡ quarters_in_year = omega arith in
    rw (c.move_rows.ensures, four, lt-ltb x term_count (omega arith), le-leb (x % contracts_in_year) last_quarter (omega arith), eq-eqb (x % contracts_in_year) 0 c.if-k-eq0.true)

pub returns : goal.returns
unfolding cascaded children_of
returns c =
    let x = c.args.contract in
    let first = first_month_of x in
    let three : first + months_in_quarter - first ≡ months_in_quarter = omega arith in
    rw (c.move_rows-2.ensures, three, lt-ltb x term_count (omega arith), le-leb (x % contracts_in_year) last_quarter (omega arith), ne_eqb (x % contracts_in_year) 0 c.if-k-eq0.false)
