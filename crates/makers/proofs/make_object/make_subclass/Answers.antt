use Rattle.makers.specs.MadeLaws.{when_no}
use borrow.Author.Rules.{rules}
use Rattle.makers.proofs.make_object.make_subclass.Goals as goal

pub returns : goal.returns
returns c = search (when_no, rules)
