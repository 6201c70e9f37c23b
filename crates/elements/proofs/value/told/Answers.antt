use Rattle.elements.proofs.Auto.{tests}
use Rattle.elements.specs.Told.{told}
use Rattle.elements.proofs.value.told.Goals as goal

pub returns-then-n-lt4294967295 : goal.returns-then-n-lt4294967295
unfolding told
returns-then-n-lt4294967295 c = search tests

pub returns : goal.returns
unfolding told
returns c = search tests
