use Prim.Native.Nat.{◌-◌}
use lib.ListN.{length}
use Rattle.links.proofs.ListLaws.{Telling}
use Rattle.links.proofs.rows.put_object.Given as goal

abbrev pub invariant-loop-j : goal.invariant-loop-j
invariant-loop-j l = Telling l.b l.i l.tag l.object l.w l.initial.rows l.rows l.o l.j l.q

abbrev pub decreases-loop-j : goal.decreases-loop-j
decreases-loop-j l = length l.b - l.j
