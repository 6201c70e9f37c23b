use Prim.Native.Nat.{◌-◌}
use Rattle.std.specs.Prelude.{length}
use Rattle.reader.proofs.DirectoriesLaws.{Turning}
use Rattle.reader.proofs.directories.directories.Given as goal

abbrev pub invariant-loop-j : goal.invariant-loop-j
invariant-loop-j l = Turning l.s l.at l.initial.out l.out l.initial.marks l.marks l.i l.end l.o l.k l.m l.n l.p l.c l.f

abbrev pub decreases-loop-j : goal.decreases-loop-j
decreases-loop-j l = length l.s - l.n
