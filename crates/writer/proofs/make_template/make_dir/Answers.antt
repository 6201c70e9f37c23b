use Rattle.rules.specs.Render.{r_fill}
use Rattle.writer.specs.Composed.{r_items}
use Rattle.makers.specs.MadeLaws.{made_left_by, next_long, next_took}
use Rattle.writer.proofs.MakeTemplateLaws.{dir_made}
use Rattle.writer.proofs.make_template.make_dir.Goals as goal

pub returns-in_err-made : goal.returns-in_err-made
returns-in_err-made c = dir_made c.record_end-next.ensures (made_left_by (next_long r_items (r_fill 0x0212) c.in_err-made.ensures) c.from_residual.ensures)

pub returns : goal.returns
returns c = dir_made c.record_end-next.ensures (next_took r_items (r_fill 0x0212) c.in_ok-made.ensures c.make_fill.ensures)
