use mathlib.Core.List.{[], ◌∷◌}
use Rattle.rules.specs.Render.{r_all, r_entry, r_fill, r_od}
use Rattle.makers.specs.MadeLaws.{made_left_by, next_long, next_took}
use Rattle.writer.proofs.make_entry.make_od.Goals as goal

pub returns-in_err-made : goal.returns-in_err-made
unfolding r_od
returns-in_err-made c = made_left_by (next_long (r_all (0x0110 ∷ []) r_entry) (r_fill 0x0107) c.in_err-made.ensures) c.from_residual.ensures

pub returns : goal.returns
unfolding r_od
returns c = next_took (r_all (0x0110 ∷ []) r_entry) (r_fill 0x0107) c.in_ok-made.ensures c.make_fill.ensures
