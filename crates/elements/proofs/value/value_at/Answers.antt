use mathlib.Core.Path.{sym, ap, ◌∙◌}
use Rattle.elements.specs.Values.{placed, value}
use Rattle.elements.specs.Lists.{lent}
use Rattle.elements.proofs.value.value_at.Goals as goal

pub returns-in-Ok : goal.returns-in-Ok
returns-in-Ok c = ap (placed c.args.at c.args.e) (sym c.in-Ok.is ∙ c.value.ensures ∙ ap (value c.args.f) (lent c.args.a c.args.e c.args.s.now))

pub returns-in-Err : goal.returns-in-Err
returns-in-Err c = ap (placed c.args.at c.args.e) (sym c.in-Err.is ∙ c.value.ensures ∙ ap (value c.args.f) (lent c.args.a c.args.e c.args.s.now))
