use Prim.Native.Nat.{◌-◌}
use Rattle.std.specs.Prelude.{length}
use Rattle.reader.proofs.TwelveLaws.{Following}
use Rattle.reader.proofs.twelve.follow.Given as goal

abbrev pub invariant-loop-j : goal.invariant-loop-j
invariant-loop-j l = Following l.s l.at l.b l.i l.end l.k l.n

abbrev pub decreases-loop-j : goal.decreases-loop-j
decreases-loop-j l = length l.s - l.n
