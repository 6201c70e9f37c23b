use Rattle.elements.specs.Header.{header}
use Rattle.elements.proofs.Auto.{tests}
use Rattle.elements.proofs.headers.header.Goals as goal

pub returns-then-end-at : goal.returns-then-end-at
unfolding header
returns-then-end-at c = search tests

pub returns-then-b-eq0 : goal.returns-then-b-eq0
unfolding header
returns-then-b-eq0 c = search tests

pub returns-then-b-eq31 : goal.returns-then-b-eq31
unfolding header
returns-then-b-eq31 c = search tests

pub returns : goal.returns
unfolding header
returns c = search tests
