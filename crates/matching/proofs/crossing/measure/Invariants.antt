use Rattle.matching.proofs.Passes.{Measuring}
use Rattle.matching.proofs.crossing.measure.Given as goal

abbrev pub invariant-loop-i : goal.invariant-loop-i
invariant-loop-i l = Measuring l.o l.book l.i l.own l.lots
