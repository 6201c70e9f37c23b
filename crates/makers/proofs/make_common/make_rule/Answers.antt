use borrow.Author.Rules.{rules}
use Rattle.rules.specs.Layouts as layouts
use Rattle.makers.proofs.make_common.make_rule.Goals as goal

pub returns : goal.returns
unfolding layouts.rule
returns c = search rules
