use Rattle.makers.specs.MadeLaws.{onward_behind}
use Rattle.writer.proofs.MakeTemplateLaws.{item_sealed}
use borrow.Author.Rules.{rules}
use Rattle.writer.proofs.make_template.make_item.Goals as goal

pub returns : goal.returns
returns c = search (item_sealed, onward_behind, rules)
