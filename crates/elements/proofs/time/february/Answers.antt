use mathlib.Core.Path.{sym, ◌∙◌}
use Rattle.elements.specs.Time.{days_of}
use Rattle.elements.proofs.time.february.Goals as goal

pub returns-then-leap : goal.returns-then-leap
unfolding days_of
returns-then-leap c = simp (sym c.leap.ensures ∙ c.if-leap.true)

pub returns : goal.returns
unfolding days_of
returns c = simp (sym c.leap.ensures ∙ c.if-leap.false)
