use borrow.Author.Rules.{rules}
use Rattle.reader.proofs.FrameLaws.{named_none, named_small, named_large, named_file_lem}
use Rattle.reader.proofs.frame.named_file.Goals as goal

pub returns-then-e-a : goal.returns-then-e-a
returns-then-e-a c = search (named_none, rules)

pub returns-then-n-lt1 : goal.returns-then-n-lt1
returns-then-n-lt1 c = search (named_small, rules)

pub returns-then-n-gt64 : goal.returns-then-n-gt64
returns-then-n-gt64 c = search (named_large, rules)

pub returns : goal.returns
returns c = search (named_file_lem, rules)
