use borrow.Author.Rules.{rules}
use Rattle.links.proofs.ServiceLaws.{numbers_are}
use Rattle.links.proofs.listing.numbers.Goals as goal

pub returns : goal.returns
returns c = search (numbers_are, rules)
