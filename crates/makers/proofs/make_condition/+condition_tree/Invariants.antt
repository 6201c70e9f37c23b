use Rattle.makers.proofs.MakeConditionLaws.{Timing}
use Prim.Native.Nat.{◌+◌, ◌*◌}
use Rattle.makers.proofs.make_condition.+condition_tree.Given as goal

abbrev pub decreases-make_condition : goal.decreases-make_condition
decreases-make_condition l = 3 * l.levels

abbrev pub decreases-make_condition_as : goal.decreases-make_condition_as
decreases-make_condition_as l = 3 * l.levels + 2

abbrev pub decreases-make_times : goal.decreases-make_times
decreases-make_times l = 3 * l.levels + 1

abbrev pub invariant-make_times-loop-turn : goal.invariant-make_times-loop-turn
invariant-make_times-loop-turn l = Timing l.b l.levels l.k l.initial.out l.out l.fn.made.next l.fn.made.end l._turn l.done
