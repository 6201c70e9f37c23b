use Rattle.rules.specs.declared.table.Sequence.TheVariants.{Path}
use Rattle.rules.specs.Tables.{path_rows, mark}
use Rattle.rules.specs.Render.{within, either, plain, r_keep}
use Rattle.makers.specs.Composed.{path_of}
use Rattle.rules.specs.Layouts as layouts
use Rattle.makers.specs.MadeLaws.{made_left_by, next_long, next_took}
use Rattle.makers.proofs.make_type.make_certificate.Goals as goal

pub returns-in_err-made : goal.returns-in_err-made
unfolding layouts.certificate layouts.certificate_value layouts.path_from
returns-in_err-made c = made_left_by (next_long (either (mark path_rows) (within 0x30 (path_of Path)) plain) (r_keep 0x018f) c.in_err-made.ensures) c.from_residual.ensures

pub returns : goal.returns
unfolding layouts.certificate layouts.certificate_value layouts.path_from
returns c = next_took (either (mark path_rows) (within 0x30 (path_of Path)) plain) (r_keep 0x018f) c.in_ok-made.ensures c.make_keep.ensures
