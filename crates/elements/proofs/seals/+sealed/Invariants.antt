use Prim.Native.Nat.{◌-◌}
use Rattle.elements.specs.Sealed.{sealed_run}
use Rattle.elements.proofs.RunLaws.{Going}
use Rattle.elements.proofs.seals.+sealed.Given as goal

abbrev pub decreases-sealed : goal.decreases-sealed
decreases-sealed l = l.levels

abbrev pub invariant-loop-i : goal.invariant-loop-i
invariant-loop-i l = Going l.levels l.s l.out l.end l.i (sealed_run l.levels l.s l.out l.at l.end)

abbrev pub decreases-loop-i : goal.decreases-loop-i
decreases-loop-i l = l.end - l.i
