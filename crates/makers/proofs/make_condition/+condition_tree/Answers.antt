use Rattle.makers.proofs.MakeConditionLaws.{condition_deep, condition_none, condition_here, as_always, as_identifier, as_not, as_and, as_or, as_other, times_deep, timing_start, timing_none, timing_long, timing_next, timing_all}
use Rattle.makers.specs.MadeLaws.{made_ended, made_left_by, within_made}
use borrow.Author.Rules.{rules}
use native.Mathlib.Omega.{arith}
use Rattle.makers.proofs.make_condition.+condition_tree.Goals as goal

pub make_condition-returns-then-levels-eq0 : goal.make_condition-returns-then-levels-eq0
make_condition-returns-then-levels-eq0 t c = search (condition_deep, rules)

pub make_condition-returns-then-b-made : goal.make_condition-returns-then-b-made
make_condition-returns-then-b-made t c = search (condition_none, rules)

pub make_condition-returns : goal.make_condition-returns
make_condition-returns t c = search (condition_here, rules)

pub make_condition_as-closed-requires : goal.make_condition_as-closed-requires
make_condition_as-closed-requires t c = search (made_ended, rules)

pub make_condition_as-closed-requires-in-And : goal.make_condition_as-closed-requires-in-And
make_condition_as-closed-requires-in-And t c = search (made_ended, rules)

pub make_condition_as-closed-requires-in-Or : goal.make_condition_as-closed-requires-in-Or
make_condition_as-closed-requires-in-Or t c = search (made_ended, rules)

pub make_condition_as-returns-in-Always : goal.make_condition_as-returns-in-Always
make_condition_as-returns-in-Always t c = search (as_always, rules)

pub make_condition_as-returns-in-Identifier : goal.make_condition_as-returns-in-Identifier
make_condition_as-returns-in-Identifier t c = search (as_identifier, rules)

pub make_condition_as-returns-in-Not : goal.make_condition_as-returns-in-Not
make_condition_as-returns-in-Not t c = search (as_not, within_made, rules)

pub make_condition_as-returns-in-And : goal.make_condition_as-returns-in-And
make_condition_as-returns-in-And t c = search (as_and, within_made, rules)

pub make_condition_as-returns-in-Or : goal.make_condition_as-returns-in-Or
make_condition_as-returns-in-Or t c = search (as_or, within_made, rules)

pub make_condition_as-returns-in-Other : goal.make_condition_as-returns-in-Other
make_condition_as-returns-in-Other t c = search (as_other, rules)

pub make_times-returns-then-levels-eq0 : goal.make_times-returns-then-levels-eq0
make_times-returns-then-levels-eq0 t c = times_deep _ _ _ _ _ c.if-levels-eq0.true (omega arith) (omega arith)

pub make_times-loop-turn-init : goal.make_times-loop-turn-init
make_times-loop-turn-init t c = search (timing_start, rules)

pub make_times-returns-then-b-done : goal.make_times-returns-then-b-done
make_times-returns-then-b-done t c = timing_none c.loop-turn.invariant c.if-b-done.true

pub make_times-returns-in_err-done : goal.make_times-returns-in_err-done
make_times-returns-in_err-done t c = made_left_by (timing_long c.loop-turn.invariant c.loop-turn-test.true c.in_err-done.ensures) c.from_residual.ensures

pub make_times-loop-turn-preserved : goal.make_times-loop-turn-preserved
make_times-loop-turn-preserved t c = timing_next c.loop-turn.invariant c.loop-turn-test.true c.in_ok-done.ensures

pub make_times-returns : goal.make_times-returns
make_times-returns t c = timing_all c.loop-turn.invariant c.loop-turn-test.false
