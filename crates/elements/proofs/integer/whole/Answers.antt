use Rattle.elements.specs.Integer.{whole}
use Rattle.elements.proofs.Auto.{tests}
use Rattle.elements.proofs.integer.whole.Goals as goal

pub returns-then-c-lt128 : goal.returns-then-c-lt128
unfolding whole
returns-then-c-lt128 c = search tests

pub returns : goal.returns
unfolding whole
returns c = search tests
