use Rattle.files.proofs.EntryLaws.{named_short, named_long, named_put}
use borrow.Author.Rules.{rules}
use Rattle.files.proofs.entry.named_path.Goals as goal

pub returns-in-1-to-64 : goal.returns-in-1-to-64
returns-in-1-to-64 c = search (named_put, rules)

pub returns-in_default : goal.returns-in_default
returns-in_default c = search (named_short, named_long, rules)

pub returns-in_default-2 : goal.returns-in_default-2
returns-in_default-2 c = search (named_short, named_long, rules)
