use Rattle.rules.specs.Tables.{rule_rows}
use Rattle.rules.specs.Render.{r_rows, r_keep, r_condition}
use Rattle.makers.specs.MadeLaws.{made_left_by}
use Rattle.makers.specs.ManyLaws.{three_first, three_second, three_third}
use Rattle.makers.proofs.make_common.make_rule_inside.Goals as goal

pub returns-in_err-made : goal.returns-in_err-made
returns-in_err-made c = made_left_by (three_first (r_rows rule_rows) (r_condition 8) (r_keep 0x012c) c.in_err-made.ensures) c.from_residual.ensures

pub returns-in_err-made-2 : goal.returns-in_err-made-2
returns-in_err-made-2 c = made_left_by (three_second (r_rows rule_rows) (r_condition 8) (r_keep 0x012c) c.in_ok-made.ensures c.in_err-made-2.ensures) c.from_residual-in_err-made-2.ensures

pub returns : goal.returns
returns c = three_third (r_rows rule_rows) (r_condition 8) (r_keep 0x012c) c.in_ok-made.ensures c.in_ok-made-2.ensures c.make_rest_in.ensures
