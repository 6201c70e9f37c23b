use Prim.Native.Nat.{◌-◌}
use lib.ListN.{length}
use Rattle.links.proofs.ObjectLaws.{Seeking}
use Rattle.links.proofs.finding.next_object.Given as goal

abbrev pub invariant-loop-j : goal.invariant-loop-j
invariant-loop-j l = Seeking l.b l.i l.j

abbrev pub decreases-loop-j : goal.decreases-loop-j
decreases-loop-j l = length l.b - l.j
