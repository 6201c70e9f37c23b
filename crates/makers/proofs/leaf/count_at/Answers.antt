use Rattle.makers.proofs.LeafLaws.{count_two}
use borrow.Author.Rules.{rules}
use Rattle.makers.proofs.leaf.count_at.Goals as goal

pub returns : goal.returns
returns c = search (count_two, rules)
