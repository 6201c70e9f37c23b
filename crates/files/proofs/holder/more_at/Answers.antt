use borrow.Author.Rules.{rules}
use Rattle.files.proofs.HolderLaws.{more_list, more_file, more_record}
use Rattle.files.proofs.holder.more_at.Goals as goal

pub returns-in-List : goal.returns-in-List
returns-in-List c = search (more_list, rules)

pub returns-in-File : goal.returns-in-File
returns-in-File c = search (more_file, more_record, rules)
