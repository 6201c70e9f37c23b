use Prim.Native.Nat.{◌-◌}
use lib.ListN.{length}
use Rattle.links.specs.Links.{first_of}
use Rattle.links.specs.Finding.{held_at}
use Rattle.links.proofs.ObjectLaws.{Searching}
use Rattle.links.proofs.finding.find.Given as goal

abbrev pub invariant-loop-j : goal.invariant-loop-j
invariant-loop-j l = Searching l.b l.kind l.j (first_of l.kind (held_at l.b l.i))

abbrev pub decreases-loop-j : goal.decreases-loop-j
decreases-loop-j l = length l.b - l.j
