use borrow.Author.Rules.{rules}
use Rattle.makers.specs.MadeLaws.{next_took, next_long, made_left_by}
use Rattle.makers.proofs.leaf.make_sequence.Goals as goal

pub returns-in_err-made : goal.returns-in_err-made
returns-in_err-made c = search (made_left_by, next_long, rules)

pub returns : goal.returns
returns c = search (next_took, rules)
