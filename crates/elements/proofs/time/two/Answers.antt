use borrow.Author.Rules.{rules}
use Rattle.elements.specs.Time.{two}
use Rattle.elements.proofs.time.two.Goals as goal

pub returns : goal.returns
unfolding two
returns c = search rules
