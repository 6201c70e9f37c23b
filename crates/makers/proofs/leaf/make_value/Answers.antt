use Rattle.makers.proofs.LeafLaws.{told_none, told_long, told_took}
use borrow.Author.Rules.{rules}
use Rattle.makers.proofs.leaf.make_value.Goals as goal

pub returns-then-b-made : goal.returns-then-b-made
returns-then-b-made c = search (told_none c.args.form, rules)

pub returns-then-out-end : goal.returns-then-out-end
returns-then-out-end c = search (told_long c.args.form, rules)

pub returns : goal.returns
returns c = search (told_took c.args.form, rules)
