use Rattle.std.proofs.Common.{◌<◌}
use Rattle.cases.proofs.lent.adler.Given as goal

abbrev pub invariant-loop-x : goal.invariant-loop-x
invariant-loop-x l = (l.a < 65521) × (l.b < 65521)
