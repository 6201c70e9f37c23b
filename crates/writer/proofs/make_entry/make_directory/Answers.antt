use Rattle.rules.specs.Render.{r_objects, r_fill}
use Rattle.makers.specs.MadeLaws.{made_left_by, next_long, next_took, onward_behind}
use Rattle.writer.proofs.MakeEntryLaws.{directory_made}
use Rattle.writer.proofs.make_entry.make_directory.Goals as goal

pub returns-in_err-made : goal.returns-in_err-made
returns-in_err-made c = let made = made_left_by (next_long r_objects (r_fill 0x0107) c.in_err-made.ensures) c.from_residual.ensures in (directory_made c.record_end-next.ensures made, onward_behind c.record_end-next.ensures made)

pub returns : goal.returns
returns c = let made = next_took r_objects (r_fill 0x0107) c.in_ok-made.ensures c.make_fill.ensures in (directory_made c.record_end-next.ensures made, onward_behind c.record_end-next.ensures made)
