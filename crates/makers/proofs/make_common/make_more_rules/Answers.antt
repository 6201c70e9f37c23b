use Rattle.rules.specs.Render.{r_rule}
use Rattle.makers.proofs.MakeCommonLaws.{rule_onward}
use borrow.Author.Rules.{rules}
use Rattle.makers.proofs.make_common.make_more_rules.Goals as goal

pub make_each-requires-clause-makes : goal.make_each-requires-clause-makes
make_each-requires-clause-makes c = (r_rule, λ x out r out' e g. (search rules, search (rule_onward, rules)))

pub returns : goal.returns
returns c = c.make_each.ensures r_rule (λ x out r out' e g. (search rules, search (rule_onward, rules)))
