use Prim.Native.Nat.{◌-◌}
use Rattle.files.proofs.ScanLaws.{Unmet}
use Rattle.files.proofs.scan.met_before.Given as goal

abbrev pub invariant-loop-k : goal.invariant-loop-k
invariant-loop-k l = Unmet l.b l.x l.i l.j l.p l.e l.k

abbrev pub decreases-loop-k : goal.decreases-loop-k
decreases-loop-k l = l.j - l.k
