use Rattle.rules.specs.Tables.{class_of}
use Rattle.rules.specs.Render.{within, r_common, r_class}
use Rattle.makers.specs.Composed.{subclass}
use Rattle.makers.specs.MadeLaws.{made_left_by}
use Rattle.makers.specs.ManyLaws.{three_first, three_second, three_third}
use Rattle.makers.proofs.make_object.make_attributes.Goals as goal

pub returns-in_err-made : goal.returns-in_err-made
returns-in_err-made c = made_left_by (three_first (within 0x30 r_common) (within 0x30 (r_class (class_of c.args.entry))) subclass c.in_err-made.ensures) c.from_residual.ensures

pub returns-in_err-made-2 : goal.returns-in_err-made-2
returns-in_err-made-2 c = made_left_by (three_second (within 0x30 r_common) (within 0x30 (r_class (class_of c.args.entry))) subclass c.in_ok-made.ensures (rw c.class_of.ensures at c.in_err-made-2.ensures)) c.from_residual-in_err-made-2.ensures

pub returns : goal.returns
returns c = three_third (within 0x30 r_common) (within 0x30 (r_class (class_of c.args.entry))) subclass c.in_ok-made.ensures (rw c.class_of.ensures at c.in_ok-made-2.ensures) c.make_subclass.ensures
