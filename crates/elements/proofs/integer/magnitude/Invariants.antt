use Rattle.elements.proofs.IntegerLoop.{Sum}
use Rattle.elements.proofs.integer.magnitude.Given as goal

abbrev pub invariant-loop-x : goal.invariant-loop-x
invariant-loop-x l = Sum l.c l.negative l.v l.x-index
