use borrow.Author.Rules.{rules}
use Rattle.reader.proofs.LinearLaws.{linear_front}
use Rattle.reader.proofs.linear.linear.Goals as goal

pub returns : goal.returns
returns c = search (linear_front, rules)
