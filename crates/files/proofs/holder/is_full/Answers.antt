use borrow.Author.Rules.{rules}
use Rattle.files.proofs.HolderLaws.{full_list, full_file, full_record}
use Rattle.files.proofs.holder.is_full.Goals as goal

pub returns-in-List : goal.returns-in-List
returns-in-List c = search (full_list, full_file, rules)

pub returns-in-Record : goal.returns-in-Record
returns-in-Record c = search (full_record, rules)
