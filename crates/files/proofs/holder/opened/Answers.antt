use Rattle.files.specs.ObjectsLaws.{objects_front}
use borrow.Author.Rules.{rules}
use Rattle.files.proofs.holder.opened.Goals as goal

pub returns : goal.returns
returns c = search (objects_front, rules)
