use Rattle.rules.specs.Render.{r_record_in}
use borrow.Author.Rules.{rules}
use Rattle.writer.proofs.make_linear.make_records.Goals as goal

pub make_each-requires-clause-makes : goal.make_each-requires-clause-makes
make_each-requires-clause-makes c = (r_record_in, λ x out r out' e g. search rules)
