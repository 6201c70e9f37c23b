use Rattle.elements.proofs.Auto.{tests}
use Rattle.elements.specs.Time.{leap}
use Rattle.elements.proofs.time.leap.Goals as goal

pub returns-then-y-eq0-2 : goal.returns-then-y-eq0-2
unfolding leap
returns-then-y-eq0-2 c = search tests

pub returns-then-y-eq0 : goal.returns-then-y-eq0
unfolding leap
returns-then-y-eq0 c = search tests

pub returns : goal.returns
unfolding leap
returns c = search tests
