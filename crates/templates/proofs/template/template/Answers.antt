use Rattle.templates.proofs.TemplateLaws.{template_headed}
use borrow.Author.Rules.{rules}
use Rattle.templates.proofs.template.template.Goals as goal

pub returns : goal.returns
returns c = search (template_headed, rules)
