use Rattle.rules.specs.Render.{within}
use Rattle.makers.specs.Composed.{path_of}
use Rattle.makers.specs.MadeLaws.{when_no}
use borrow.Author.Rules.{rules}
use Rattle.makers.proofs.make_type.make_due_path.Goals as goal

pub returns : goal.returns
returns c = when_no _ (within c.args.tag (path_of c.args.q)) _ _ (rw (c.from.ensures, c.row_of-first.ensures, c.requires.0) at c.is_next.ensures) c.if-is_next.false (search rules) (search rules)
