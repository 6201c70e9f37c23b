use Prim.Native.Nat.{◌-◌}
use Rattle.files.proofs.ScanLaws.{Unnamed}
use Rattle.files.proofs.scan.next_name.Given as goal

abbrev pub invariant-loop-j : goal.invariant-loop-j
invariant-loop-j l = Unnamed l.b l.i l.end l.j

abbrev pub decreases-loop-j : goal.decreases-loop-j
decreases-loop-j l = l.end - l.j
