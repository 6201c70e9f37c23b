use borrow.Author.Rules.{rules}
use Rattle.rules.specs.Layouts as layouts
use Rattle.makers.proofs.make_type.make_path.Goals as goal

pub returns : goal.returns
unfolding layouts.path_from
returns c = rw (← c.requires.0) (search rules)
