use Rattle.templates.proofs.TemplateLaws.{did_ahead}
use borrow.Author.Rules.{rules}
use Rattle.templates.proofs.file.headed_items.Goals as goal

pub returns : goal.returns
returns c = search (did_ahead 0x0200, rules)
