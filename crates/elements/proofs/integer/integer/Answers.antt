use mathlib.Core.Path.{sym, ◌∙◌}
use Rattle.elements.specs.Integer.{integer}
use Rattle.elements.proofs.Auto.{tests}
use Rattle.elements.proofs.integer.integer.Goals as goal

pub returns-then-c-eq0 : goal.returns-then-c-eq0
unfolding integer
returns-then-c-eq0 c = search tests

pub returns-then-c-eq1 : goal.returns-then-c-eq1
unfolding integer
returns-then-c-eq1 c = search tests

pub returns-then-padded : goal.returns-then-padded
unfolding integer
returns-then-padded c = search (tests, sym c.padded.ensures ∙ c.if-padded.true)

pub returns : goal.returns
unfolding integer
returns c = search (tests, sym c.padded.ensures ∙ c.if-padded.false)
