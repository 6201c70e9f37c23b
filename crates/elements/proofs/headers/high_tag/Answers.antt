use Rattle.elements.specs.Header.{high_tag}
use Rattle.elements.proofs.Auto.{tests}
use Rattle.elements.proofs.headers.high_tag.Goals as goal

pub returns-then-end-p : goal.returns-then-end-p
unfolding high_tag
returns-then-end-p c = search tests

pub returns-then-x-lt31 : goal.returns-then-x-lt31
unfolding high_tag
returns-then-x-lt31 c = search tests

pub returns-then-x : goal.returns-then-x
unfolding high_tag
returns-then-x c = search tests

pub returns : goal.returns
unfolding high_tag
returns c = search tests
