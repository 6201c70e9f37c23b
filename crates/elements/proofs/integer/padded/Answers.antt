use Rattle.elements.specs.Integer.{padded}
use Rattle.elements.proofs.Auto.{tests}
use Rattle.elements.proofs.integer.padded.Goals as goal

pub returns-then-x-eq0 : goal.returns-then-x-eq0
unfolding padded
returns-then-x-eq0 c = search tests

pub returns-then-x-eq255 : goal.returns-then-x-eq255
unfolding padded
returns-then-x-eq255 c = search tests

pub returns : goal.returns
unfolding padded
returns c = search tests
