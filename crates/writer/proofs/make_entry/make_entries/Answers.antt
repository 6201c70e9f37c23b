use Rattle.rules.specs.Render.{r_entry}
use borrow.Author.Rules.{rules}
use Rattle.writer.proofs.make_entry.make_entries.Goals as goal

pub make_each-requires-clause-makes : goal.make_each-requires-clause-makes
make_each-requires-clause-makes c = (r_entry, λ x out r out' e g. search rules)
