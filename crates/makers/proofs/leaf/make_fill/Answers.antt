use Rattle.rules.specs.Render.{r_fill}
use Rattle.makers.specs.MadeLaws.{next_there, when_yes, when_no}
use borrow.Author.Rules.{rules}
use Rattle.makers.proofs.leaf.make_fill.Goals as goal

pub make_same-requires : goal.make_same-requires
make_same-requires c = search (next_there, rules)

pub returns-then-is_next : goal.returns-then-is_next
unfolding r_fill
returns-then-is_next c = search (when_yes, rules)

pub returns : goal.returns
unfolding r_fill
returns c = search (when_no, rules)
