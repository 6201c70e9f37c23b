use Rattle.makers.proofs.LeafLaws.{plain_made}
use borrow.Author.Rules.{rules}
use Rattle.makers.proofs.leaf.make_plain.Goals as goal

pub returns : goal.returns
returns c = search (plain_made, rules)
