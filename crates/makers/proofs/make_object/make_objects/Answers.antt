use Rattle.rules.specs.Render.{r_object, r_objects}
use Rattle.rules.specs.Entries as entries
use borrow.Author.Rules.{rules}
use Rattle.makers.proofs.make_object.make_objects.Goals as goal

pub make_each-requires-clause-makes : goal.make_each-requires-clause-makes
make_each-requires-clause-makes c = (r_object, λ x out r out' e g. search rules)

pub returns : goal.returns
unfolding r_object r_objects entries.object
returns c = c.make_each.ensures r_object (λ x out r out' e g. search rules)
