use Rattle.rules.specs.Render.{r_keep}
use Rattle.writer.specs.Composed.{with_set}
use Rattle.rules.specs.Layouts as layouts
use Rattle.makers.specs.MadeLaws.{made_left_by, next_long, next_took}
use Rattle.writer.proofs.make_template.make_discretionary.Goals as goal

pub returns-in_err-made : goal.returns-in_err-made
unfolding layouts.discretionary layouts.path_from
returns-in_err-made c = made_left_by (next_long with_set (r_keep 0x020f) c.in_err-made.ensures) c.from_residual.ensures

pub returns : goal.returns
unfolding layouts.discretionary layouts.path_from
returns c = next_took with_set (r_keep 0x020f) c.in_ok-made.ensures c.make_rest_in.ensures
