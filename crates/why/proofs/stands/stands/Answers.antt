use borrow.Author.Rules.{rules}
use Rattle.why.proofs.StandsLaws.{roaming_found, roaming_next, roaming_all}
use Rattle.why.proofs.stands.stands.Goals as goal

pub returns-then-is_some : goal.returns-then-is_some
returns-then-is_some c = search (roaming_found, rules)

pub loop-j-preserved : goal.loop-j-preserved
loop-j-preserved c = search (roaming_next, rules)

pub returns : goal.returns
returns c = search (roaming_all, rules)
