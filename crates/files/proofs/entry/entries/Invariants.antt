use Prim.Native.Nat.{◌-◌}
use Rattle.files.proofs.EntryLaws.{Listing}
use Rattle.files.proofs.entry.entries.Given as goal

abbrev pub invariant-loop-site : goal.invariant-loop-site
invariant-loop-site l = Listing l.site l.s l.initial.out l.out l.initial.marks l.marks l.end l.initial.at.dump l.initial.at.book l.k l.at.dump l.at.book l.again

abbrev pub decreases-loop-site : goal.decreases-loop-site
decreases-loop-site l = l.end - l.at.dump
