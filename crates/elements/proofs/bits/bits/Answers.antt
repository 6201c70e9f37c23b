use Rattle.elements.specs.Bits.{bits}
use Rattle.elements.proofs.Auto.{tests}
use Rattle.elements.proofs.bits.bits.Goals as goal

pub returns-then-c-eq0 : goal.returns-then-c-eq0
unfolding bits
returns-then-c-eq0 c = search tests

pub returns-then-u-gt7 : goal.returns-then-u-gt7
unfolding bits
returns-then-u-gt7 c = search tests

pub returns-then-u-eq0 : goal.returns-then-u-eq0
unfolding bits
returns-then-u-eq0 c = search tests

pub returns-then-c-eq1 : goal.returns-then-c-eq1
unfolding bits
returns-then-c-eq1 c = search tests

pub returns : goal.returns
unfolding bits
returns c = search tests
