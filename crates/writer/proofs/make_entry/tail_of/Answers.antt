use Rattle.writer.proofs.MakeEntryLaws.{tail_none, tail_some}
use borrow.Author.Rules.{rules}
use Rattle.writer.proofs.make_entry.tail_of.Goals as goal

pub returns-then-e-i : goal.returns-then-e-i
returns-then-e-i c = search (tail_none, tail_some, rules)

pub returns : goal.returns
returns c = search (tail_none, tail_some, rules)
