use Rattle.rules.specs.declared.table.Sequence.TheVariants.{OdfPath, InfoPath}
use Rattle.rules.specs.Render.{r_keep}
use Rattle.makers.specs.Composed.{due_path}
use Rattle.makers.specs.MadeLaws.{made_left_by}
use Rattle.makers.specs.ManyLaws.{three_first, three_second, three_third}
use Rattle.writer.proofs.make_template.both_paths.Goals as goal

pub returns-in_err-made : goal.returns-in_err-made
returns-in_err-made c = made_left_by (three_first (r_keep 0x0206) (due_path OdfPath 0x30) (due_path InfoPath 0xa0) c.in_err-made.ensures) c.from_residual.ensures

pub returns-in_err-made-2 : goal.returns-in_err-made-2
returns-in_err-made-2 c = made_left_by (three_second (r_keep 0x0206) (due_path OdfPath 0x30) (due_path InfoPath 0xa0) c.in_ok-made.ensures c.in_err-made-2.ensures) c.from_residual-in_err-made-2.ensures

pub returns : goal.returns
returns c = three_third (r_keep 0x0206) (due_path OdfPath 0x30) (due_path InfoPath 0xa0) c.in_ok-made.ensures c.in_ok-made-2.ensures c.make_due_path-2.ensures
