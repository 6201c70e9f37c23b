use Rattle.templates.proofs.TemplateLaws.{starting, starting_over, starting_differs, starting_next, starting_all}
use borrow.Author.Rules.{rules}
use Rattle.templates.proofs.template.starts.Goals as goal

pub loop-i-init : goal.loop-i-init
loop-i-init c = search (starting, rules)

pub returns-then-e-a : goal.returns-then-e-a
returns-then-e-a c = search (starting_over, rules)

pub returns-then-s-a : goal.returns-then-s-a
returns-then-s-a c = search (starting_differs, rules)

pub loop-i-preserved : goal.loop-i-preserved
loop-i-preserved c = search (starting_next, rules)

pub returns : goal.returns
returns c = search (starting_all, rules)
