use Rattle.elements.proofs.Auto.{tests}
use Rattle.elements.specs.Time.{clocked}
use Rattle.elements.proofs.time.clocked.Goals as goal

pub returns-then-h-gt23 : goal.returns-then-h-gt23
unfolding clocked
returns-then-h-gt23 c = search tests

pub returns-then-m-gt59 : goal.returns-then-m-gt59
unfolding clocked
returns-then-m-gt59 c = search tests

pub returns : goal.returns
unfolding clocked
returns c = search tests
