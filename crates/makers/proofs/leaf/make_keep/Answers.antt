use Rattle.rules.specs.Render.{plain, r_keep}
use Rattle.makers.specs.MadeLaws.{when_yes, when_no}
use borrow.Author.Rules.{rules}
use Rattle.makers.proofs.leaf.make_keep.Goals as goal

pub returns-then-is_next : goal.returns-then-is_next
unfolding r_keep
returns-then-is_next c = search (when_yes c.args.kind plain, rules)

pub returns : goal.returns
unfolding r_keep
returns c = search (when_no c.args.kind plain, rules)
