use Rattle.templates.proofs.TemplateLaws.{unreached_same, unreached_moved, unreached_other}
use borrow.Author.Rules.{rules}
use Rattle.templates.proofs.template.is_unreached.Goals as goal

pub returns-then-i-j : goal.returns-then-i-j
returns-then-i-j c = search (unreached_same, rules)

pub returns-else-i-j : goal.returns-else-i-j
returns-else-i-j c = search (unreached_moved, rules)

pub returns-else-mine : goal.returns-else-mine
returns-else-mine c = search (unreached_other, rules)
