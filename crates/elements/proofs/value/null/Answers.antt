use Rattle.elements.specs.Values.{null}
use Rattle.elements.proofs.Auto.{tests}
use Rattle.elements.proofs.value.null.Goals as goal

pub returns-then-c-eq0 : goal.returns-then-c-eq0
unfolding null
returns-then-c-eq0 c = search tests

pub returns : goal.returns
unfolding null
returns c = search tests
