use Rattle.makers.proofs.LeafLaws.{number_four}
use borrow.Author.Rules.{rules}
use Rattle.makers.proofs.leaf.number_at.Goals as goal

pub returns : goal.returns
returns c = search (number_four, rules)
