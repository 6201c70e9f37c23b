use Rattle.rules.specs.Tables.{type_of}
use Rattle.rules.specs.Render.{within, r_type}
use Rattle.makers.specs.Composed.{attributes}
use Rattle.rules.specs.Layouts as layouts
use Rattle.makers.specs.MadeLaws.{made_left_by, next_long, next_took}
use Rattle.makers.proofs.make_object.make_contents.Goals as goal

pub returns-in_err-made : goal.returns-in_err-made
unfolding layouts.contents layouts.subclass
returns-in_err-made c = made_left_by (next_long (attributes c.args.entry) (within 0xa1 (r_type (type_of c.args.entry c.args.tag))) c.in_err-made.ensures) c.from_residual.ensures

pub returns : goal.returns
unfolding layouts.contents layouts.subclass
returns c = next_took (attributes c.args.entry) (within 0xa1 (r_type (type_of c.args.entry c.args.tag))) c.in_ok-made.ensures (rw c.type_of.ensures at c.type_element.ensures)
