use Rattle.elements.specs.Header.{fitted}
use Rattle.elements.proofs.Auto.{tests}
use Rattle.elements.proofs.headers.fitted.Goals as goal

pub returns-then-n-end : goal.returns-then-n-end
unfolding fitted
returns-then-n-end c = search tests

pub returns : goal.returns
unfolding fitted
returns c = search tests
