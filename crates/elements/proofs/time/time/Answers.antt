use mathlib.Core.Path.{sym, ◌∙◌}
use Rattle.elements.specs.Time.{time}
use Rattle.elements.proofs.time.time.Goals as goal

pub returns-then-stated : goal.returns-then-stated
unfolding time
returns-then-stated c = simp (sym c.stated.ensures ∙ c.if-stated.true)

pub returns : goal.returns
unfolding time
returns c = simp (sym c.stated.ensures ∙ c.if-stated.false)
