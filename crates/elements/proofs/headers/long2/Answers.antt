use Rattle.elements.specs.Header.{long2}
use Rattle.elements.proofs.Auto.{tests}
use Rattle.elements.proofs.headers.long2.Goals as goal

pub returns-then-end-p-lt2 : goal.returns-then-end-p-lt2
unfolding long2
returns-then-end-p-lt2 c = search tests

pub returns : goal.returns
unfolding long2
returns c = search tests
