use Rattle.makers.proofs.MakeConditionLaws.{kind_always, kind_identifier, kind_not, kind_and, kind_or, kind_other}
use borrow.Author.Rules.{rules}
use Rattle.makers.proofs.make_condition.sort_of_kind.Goals as goal

pub returns-in-294 : goal.returns-in-294
returns-in-294 c = search (kind_always, rules)

pub returns-in-295 : goal.returns-in-295
returns-in-295 c = search (kind_identifier, rules)

pub returns-in-297 : goal.returns-in-297
returns-in-297 c = search (kind_not, rules)

pub returns-in-298 : goal.returns-in-298
returns-in-298 c = search (kind_and, rules)

pub returns-in-299 : goal.returns-in-299
returns-in-299 c = search (kind_or, rules)

pub returns-in_default : goal.returns-in_default
returns-in_default c = search (kind_other, rules)
