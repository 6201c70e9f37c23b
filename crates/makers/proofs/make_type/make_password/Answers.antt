use Rattle.rules.specs.declared.table.Sequence.TheVariants.{Path}
use Rattle.rules.specs.Tables.{password_rows}
use Rattle.rules.specs.Render.{r_rows, r_keep}
use Rattle.makers.specs.Composed.{due_path}
use Rattle.rules.specs.Layouts as layouts
use Rattle.makers.specs.MadeLaws.{made_left_by}
use Rattle.makers.specs.ManyLaws.{three_first, three_second, three_third}
use Rattle.makers.proofs.make_type.make_password.Goals as goal

pub returns-in_err-made : goal.returns-in_err-made
unfolding layouts.password layouts.path_from
returns-in_err-made c = made_left_by (three_first (r_rows password_rows) (due_path Path 0x30) (r_keep 0x019f) c.in_err-made.ensures) c.from_residual.ensures

pub returns-in_err-made-2 : goal.returns-in_err-made-2
unfolding layouts.password layouts.path_from
returns-in_err-made-2 c = made_left_by (three_second (r_rows password_rows) (due_path Path 0x30) (r_keep 0x019f) c.in_ok-made.ensures c.in_err-made-2.ensures) c.from_residual-in_err-made-2.ensures

pub returns : goal.returns
unfolding layouts.password layouts.path_from
returns c = three_third (r_rows password_rows) (due_path Path 0x30) (r_keep 0x019f) c.in_ok-made.ensures c.in_ok-made-2.ensures c.make_rest_in.ensures
