use Rattle.rules.proofs.KeptLaws.{unless_required_lem, unless_optional, unless_default}
use borrow.Author.Rules.{rules}
use Rattle.rules.proofs.kept.put_unless_required.Goals as goal

pub returns-in-Required : goal.returns-in-Required
returns-in-Required c = search (unless_required_lem, rules)

pub returns-in-Optional : goal.returns-in-Optional
returns-in-Optional c = search (unless_optional, unless_default, rules)
