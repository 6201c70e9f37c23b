use borrow.Author.Rules.{rules}
use Rattle.rules.proofs.TagLaws.{class_below, class_above}
use Rattle.rules.proofs.class.class_of.Goals as goal

pub returns-then-entry-lt160 : goal.returns-then-entry-lt160
returns-then-entry-lt160 c = search (class_below, class_above, rules)

pub returns-then-entry-gt168 : goal.returns-then-entry-gt168
returns-then-entry-gt168 c = search (class_below, class_above, rules)
