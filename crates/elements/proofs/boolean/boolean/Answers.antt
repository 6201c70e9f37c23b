use Rattle.elements.specs.Boolean.{boolean}
use Rattle.elements.proofs.Auto.{tests}
use Rattle.elements.proofs.boolean.boolean.Goals as goal

pub returns-then-x-eq0 : goal.returns-then-x-eq0
unfolding boolean
returns-then-x-eq0 c = search tests

pub returns-then-x : goal.returns-then-x
unfolding boolean
returns-then-x c = search tests

pub returns-then-c-eq1 : goal.returns-then-c-eq1
unfolding boolean
returns-then-c-eq1 c = search tests

pub returns : goal.returns
unfolding boolean
returns c = search tests
