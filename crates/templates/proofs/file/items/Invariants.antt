use Prim.Native.Nat.{◌-◌}
use Rattle.templates.proofs.TemplateLaws.{Turning}
use Rattle.templates.proofs.file.items.Given as goal

abbrev pub invariant-loop-out : goal.invariant-loop-out
invariant-loop-out l = Turning l.s l.initial.out l.out l.end l.initial.at.dump l.initial.at.book l.at.dump l.at.book

abbrev pub decreases-loop-out : goal.decreases-loop-out
decreases-loop-out l = l.end - l.at.dump
