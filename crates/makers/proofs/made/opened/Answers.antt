use Rattle.makers.specs.MadeLaws.{opened_begins, opened_lacks}
use borrow.Author.Rules.{rules}
use Rattle.makers.proofs.made.opened.Goals as goal

pub returns-then-len-made : goal.returns-then-len-made
returns-then-len-made c = search (opened_lacks, rules)

pub returns : goal.returns
returns c = search (opened_begins, rules)
