use Rattle.files.proofs.FillLaws.{same_none, same_differs, same_next, same_all}
use borrow.Author.Rules.{rules}
use Rattle.files.proofs.fills.differs.Goals as goal

pub loop-i-init : goal.loop-i-init
loop-i-init c = search (same_none, rules)

pub returns-then-s-i : goal.returns-then-s-i
returns-then-s-i c = search (same_differs, rules)

pub loop-i-preserved : goal.loop-i-preserved
loop-i-preserved c = search (same_next, rules)

pub returns : goal.returns
returns c = search (same_all, rules)
