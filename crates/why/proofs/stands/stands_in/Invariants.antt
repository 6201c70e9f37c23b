use Prim.Native.Nat.{◌-◌}
use lib.ListN.{length}
use lib.Seq.{slice}
use Rattle.links.specs.Finding.{held_at}
use Rattle.links.specs.Numbers.{number_of}
use Rattle.why.specs.Why.{stands_in}
use Rattle.why.proofs.StandsLaws.{Standing}
use Rattle.why.proofs.stands.stands_in.Given as goal

abbrev pub invariant-loop-j : goal.invariant-loop-j
invariant-loop-j l = Standing l.b (number_of l.link) l.entry (slice l.p l.e l.b) l.j (stands_in (number_of l.link) (slice l.p l.e l.b) l.entry (held_at l.b l.i))

abbrev pub decreases-loop-j : goal.decreases-loop-j
decreases-loop-j l = length l.b - l.j
