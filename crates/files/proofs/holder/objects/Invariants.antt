use Prim.Native.Nat.{◌-◌}
use Rattle.files.proofs.HolderLaws.{Objects}
use Rattle.files.proofs.holder.objects.Given as goal

abbrev pub invariant-loop-x : goal.invariant-loop-x
invariant-loop-x l = Objects l.s l.x l.site l.entry l.initial.out l.out l.initial.marks l.marks l.end l.initial.at.dump l.initial.at.book l.k l.j l.at.dump l.at.book

abbrev pub decreases-loop-x : goal.decreases-loop-x
decreases-loop-x l = l.end - l.at.dump
