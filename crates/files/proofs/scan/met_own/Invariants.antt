use Prim.Native.Nat.{◌-◌}
use Rattle.files.proofs.ScanLaws.{Unlike}
use Rattle.files.proofs.scan.met_own.Given as goal

abbrev pub invariant-loop-k : goal.invariant-loop-k
invariant-loop-k l = Unlike l.b l.own l.c l.p l.e l.k

abbrev pub decreases-loop-k : goal.decreases-loop-k
decreases-loop-k l = l.c - l.k
