use Prim.Native.Nat.{◌-◌}
use Rattle.reader.proofs.LinearLaws.{Records}
use Rattle.reader.proofs.linear.records.Given as goal

abbrev pub invariant-loop-at : goal.invariant-loop-at
invariant-loop-at l = Records l.s l.site l.entry l.initial.out l.out l.initial.marks l.marks l.end l.initial.at.dump l.initial.at.book l.k l.j l.at.dump l.at.book

abbrev pub decreases-loop-at : goal.decreases-loop-at
decreases-loop-at l = l.end - l.at.dump
