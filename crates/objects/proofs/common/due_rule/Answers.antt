use borrow.Author.Rules.{rules}
use mathlib.Core.Path.{refl}
use Rattle.rules.specs.Objects.{rule}
use Rattle.objects.proofs.common.due_rule.Goals as goal

pub returns : goal.returns
returns c = let d = c.due.ensures (rule c.args.s.now) (λ x o r p t z. search rules) in (d.0, d.1 refl)
