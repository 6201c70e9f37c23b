use borrow.Author.Rules.{rules}
use Rattle.why.proofs.WhyLaws.{missed_none, missed_some}
use Rattle.why.proofs.whys.missed.Goals as goal

pub returns-then-not-is_peopled : goal.returns-then-not-is_peopled
returns-then-not-is_peopled c = search (missed_none, rules)

pub returns : goal.returns
returns c = search (missed_some, rules)
