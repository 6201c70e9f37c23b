use Rattle.elements.proofs.Auto.{tests}
use borrow.Author.Tests.{ne_eqb}
use Rattle.elements.specs.Time.{dated}
use Rattle.elements.proofs.time.dated.Goals as goal

pub returns-then-d-eq0 : goal.returns-then-d-eq0
unfolding dated
returns-then-d-eq0 c = search tests

pub returns : goal.returns
unfolding dated
returns c = simp (ne_eqb _ _ c.if-d-eq0.false, c.days_of.ensures)
