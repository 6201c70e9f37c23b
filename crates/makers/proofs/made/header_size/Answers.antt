use Rattle.makers.specs.MadeLaws.{size_short, size_middle, size_long}
use borrow.Author.Rules.{rules}
use Rattle.makers.proofs.made.header_size.Goals as goal

pub returns-then-n-lt128 : goal.returns-then-n-lt128
returns-then-n-lt128 c = search (size_short, rules)

pub returns-then-n-lt256 : goal.returns-then-n-lt256
returns-then-n-lt256 c = search (size_middle, rules)

pub returns : goal.returns
returns c = search (size_long, rules)
