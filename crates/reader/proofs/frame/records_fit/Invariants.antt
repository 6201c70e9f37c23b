use Prim.Native.Nat.{◌-◌}
use Rattle.reader.proofs.FrameLaws.{Fitting}
use Rattle.reader.proofs.frame.records_fit.Given as goal

abbrev pub invariant-loop-i : goal.invariant-loop-i
invariant-loop-i l = Fitting l.s l.stop l.at l.i

abbrev pub decreases-loop-i : goal.decreases-loop-i
decreases-loop-i l = l.stop - l.i
