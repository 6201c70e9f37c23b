use Rattle.elements.specs.Header.{long1}
use Rattle.elements.proofs.Auto.{tests}
use Rattle.elements.proofs.headers.long1.Goals as goal

pub returns-then-end-p : goal.returns-then-end-p
unfolding long1
returns-then-end-p c = search tests

pub returns-then-x-lt128 : goal.returns-then-x-lt128
unfolding long1
returns-then-x-lt128 c = rw (← c.from-x.ensures) (search tests)

pub returns : goal.returns
unfolding long1
returns c = rw (← c.from-x.ensures) (search tests)
