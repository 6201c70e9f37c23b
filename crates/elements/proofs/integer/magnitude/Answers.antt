use mathlib.Core.Path.{◌∙◌}
use Rattle.elements.proofs.IntegerLoop.{sum_none, sum_more, sum_past, sum_false, sum_true}
use Rattle.elements.proofs.integer.magnitude.Goals as goal

pub loop-x-init : goal.loop-x-init
loop-x-init c = search sum_none

pub returns-then-v-ge4294967295 : goal.returns-then-v-ge4294967295
returns-then-v-ge4294967295 c = sum_past c.loop-x.invariant c.loop-x-test.true (c.from.ensures ∙ c.digit.ensures) c.if-v-ge4294967295.true

pub loop-x-preserved : goal.loop-x-preserved
loop-x-preserved c = sum_more c.loop-x.invariant c.loop-x-test.true (c.from.ensures ∙ c.digit.ensures) c.if-v-ge4294967295.false

pub returns-then-negative : goal.returns-then-negative
returns-then-negative c = search sum_true

pub returns : goal.returns
returns c = search sum_false
