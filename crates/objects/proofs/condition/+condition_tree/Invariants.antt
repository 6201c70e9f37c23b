use Prim.Native.Nat.{◌+◌, ◌-◌, ◌*◌}
use Rattle.objects.proofs.ConditionLaws.{Listing}
use Rattle.objects.proofs.condition.+condition_tree.Given as goal

abbrev pub decreases-condition : goal.decreases-condition
decreases-condition l = 5 * l.levels

abbrev pub decreases-condition_as : goal.decreases-condition_as
decreases-condition_as l = 5 * l.levels + 4

abbrev pub decreases-conditions : goal.decreases-conditions
decreases-conditions l = 5 * l.levels + 2

abbrev pub decreases-listed : goal.decreases-listed
decreases-listed l = 5 * l.levels + 3

abbrev pub decreases-negated : goal.decreases-negated
decreases-negated l = 5 * l.levels + 3

abbrev pub invariant-conditions-loop-n : goal.invariant-conditions-loop-n
invariant-conditions-loop-n l = Listing l.s l.levels l.initial.out l.out l.end l.initial.n.dump l.initial.n.book l.count l.n.dump l.n.book

abbrev pub decreases-conditions-loop-n : goal.decreases-conditions-loop-n
decreases-conditions-loop-n l = l.end - l.n.dump
