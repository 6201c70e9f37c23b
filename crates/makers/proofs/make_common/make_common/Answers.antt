use Rattle.rules.specs.Tables.{common_rows, rule_rows, mark}
use Rattle.rules.specs.Render.{within, when, r_rows, r_keep, r_all, r_rule}
use Rattle.rules.specs.Layouts as layouts
use Rattle.makers.specs.MadeLaws.{made_left_by}
use Rattle.makers.specs.ManyLaws.{three_first, three_second, three_third}
use Rattle.makers.proofs.make_common.make_common.Goals as goal

pub returns-in_err-made : goal.returns-in_err-made
unfolding layouts.common layouts.rules layouts.rule
returns-in_err-made c = made_left_by (three_first (r_rows common_rows) (when (mark rule_rows) (within 0x30 (r_all (mark rule_rows) r_rule))) (r_keep 0x012f) c.in_err-made.ensures) c.from_residual.ensures

pub returns-in_err-made-2 : goal.returns-in_err-made-2
unfolding layouts.common layouts.rules layouts.rule
returns-in_err-made-2 c = made_left_by (three_second (r_rows common_rows) (when (mark rule_rows) (within 0x30 (r_all (mark rule_rows) r_rule))) (r_keep 0x012f) c.in_ok-made.ensures c.in_err-made-2.ensures) c.from_residual-in_err-made-2.ensures

pub returns : goal.returns
unfolding layouts.common layouts.rules layouts.rule
returns c = three_third (r_rows common_rows) (when (mark rule_rows) (within 0x30 (r_all (mark rule_rows) r_rule))) (r_keep 0x012f) c.in_ok-made.ensures c.in_ok-made-2.ensures c.make_rest_in.ensures
