use Rattle.makers.specs.MadeLaws.{puts_took, puts_long}
use borrow.Author.Rules.{rules}
use Rattle.makers.proofs.leaf.make_part.Goals as goal

pub returns-then-out-end : goal.returns-then-out-end
returns-then-out-end c = search (puts_long, rules)

pub returns : goal.returns
returns c = search (puts_took, rules)
