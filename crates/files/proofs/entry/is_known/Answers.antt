use borrow.Author.Rules.{rules}
use Rattle.files.proofs.EntryLaws.{in_range, below_range, above_range}
use Rattle.files.proofs.entry.is_known.Goals as goal

pub returns-in-160-to-168 : goal.returns-in-160-to-168
returns-in-160-to-168 c = search (in_range, below_range, above_range, rules)

pub returns-in_default : goal.returns-in_default
returns-in_default c = search (in_range, below_range, above_range, rules)

pub returns-in_default-2 : goal.returns-in_default-2
returns-in_default-2 c = search (in_range, below_range, above_range, rules)
