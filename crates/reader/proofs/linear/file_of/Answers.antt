use borrow.Author.Rules.{rules}
use Rattle.reader.proofs.LinearLaws.{kind_transparent, kind_linear, kind_fits}
use Rattle.reader.proofs.linear.file_of.Goals as goal

pub returns-then-kind-eq3 : goal.returns-then-kind-eq3
returns-then-kind-eq3 c = search (kind_transparent, rules)

pub linear-requires : goal.linear-requires
linear-requires c = search (kind_fits, rules)

pub returns : goal.returns
returns c = search (kind_linear, rules)
