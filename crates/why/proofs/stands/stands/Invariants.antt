use Prim.Native.Nat.{◌-◌}
use lib.ListN.{length}
use lib.Seq.{slice}
use Rattle.links.specs.Finding.{objects_at}
use Rattle.links.specs.Numbers.{number_of}
use Rattle.why.specs.Why.{stands}
use Rattle.why.proofs.StandsLaws.{Roaming}
use Rattle.why.proofs.stands.stands.Given as goal

abbrev pub invariant-loop-j : goal.invariant-loop-j
invariant-loop-j l = Roaming l.b (number_of l.link) (slice l.p l.e l.b) l.i (stands (number_of l.link) (slice l.p l.e l.b) (objects_at l.b 0))

abbrev pub decreases-loop-j : goal.decreases-loop-j
decreases-loop-j l = length l.b - l.i
