use mathlib.Core.List.{[]}
use borrow.Author.Rules.{rules}
use Rattle.templates.proofs.TemplateLaws.{did_headed}
use Rattle.templates.proofs.template.opened.Goals as goal

pub returns : goal.returns
returns c = search (did_headed 0x0205 [], rules)
