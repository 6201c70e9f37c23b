use Rattle.elements.specs.Header.{long2_of}
use Rattle.elements.proofs.Auto.{tests}
use Rattle.elements.proofs.headers.long2_of.Goals as goal

pub returns-then-n-lt256 : goal.returns-then-n-lt256
unfolding long2_of
returns-then-n-lt256 c = search tests

pub returns : goal.returns
unfolding long2_of
returns c = search tests
