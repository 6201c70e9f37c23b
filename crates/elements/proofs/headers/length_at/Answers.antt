use Rattle.elements.specs.Header.{length_at}
use Rattle.elements.proofs.Auto.{tests}
use Rattle.elements.proofs.headers.length_at.Goals as goal

pub returns-then-end-p : goal.returns-then-end-p
unfolding length_at
returns-then-end-p c = search tests

pub returns-then-n-lt128 : goal.returns-then-n-lt128
unfolding length_at
returns-then-n-lt128 c = rw (← c.from-n.ensures) (search tests)

pub returns-then-n-eq129 : goal.returns-then-n-eq129
unfolding length_at
returns-then-n-eq129 c = rw (← c.from-n.ensures) (search tests)

pub returns-then-n-eq130 : goal.returns-then-n-eq130
unfolding length_at
returns-then-n-eq130 c = rw (← c.from-n.ensures) (search tests)

pub returns : goal.returns
unfolding length_at
returns c = rw (← c.from-n.ensures) (search tests)
