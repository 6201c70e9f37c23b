use Prim.Native.Nat.{◌-◌}
use Rattle.objects.proofs.RuleLaws.{Ruling}
use Rattle.objects.proofs.common.more_rules.Given as goal

abbrev pub invariant-loop-n : goal.invariant-loop-n
invariant-loop-n l = Ruling l.s l.initial.out l.out l.end l.initial.n.dump l.initial.n.book l.n.dump l.n.book

abbrev pub decreases-loop-n : goal.decreases-loop-n
decreases-loop-n l = l.end - l.n.dump
