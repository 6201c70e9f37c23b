use Rattle.writer.specs.Composed.{r_item}
use borrow.Author.Rules.{rules}
use Rattle.writer.proofs.make_template.make_items.Goals as goal

pub make_each-requires-clause-makes : goal.make_each-requires-clause-makes
make_each-requires-clause-makes c = (r_item, λ x out r out' e g. search rules)
