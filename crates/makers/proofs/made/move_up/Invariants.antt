use Rattle.makers.specs.Shifts.{Shifting}
use Rattle.makers.proofs.made.move_up.Given as goal

abbrev pub invariant-loop-k : goal.invariant-loop-k
invariant-loop-k l = Shifting l.initial.out l.out l.from l.to l.by l.k
