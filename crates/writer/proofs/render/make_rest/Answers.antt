use Rattle.rules.specs.Render.{r_od}
use Rattle.makers.specs.MadeLaws.{enclosed, made_left_by, made_steps, making}
use Rattle.writer.proofs.RenderLaws.{two_long, two_took}
use borrow.Author.Rules.{rules}
use Rattle.writer.proofs.render.make_rest.Goals as goal

pub returns-in_err-made : goal.returns-in_err-made
returns-in_err-made c = made_left_by (two_long (enclosed r_od c.in_err-made.ensures (λ x out m out' g. search rules))) c.from_residual.ensures

pub make_files-requires : goal.make_files-requires
make_files-requires c = let made = enclosed r_od {b = c.args.b.now} c.in_ok-made.ensures (λ x out m out' g. search rules) in (made_steps made, making made (search rules) (search rules))

pub returns : goal.returns
returns c = two_took (enclosed r_od c.in_ok-made.ensures (λ x out m out' g. search rules)) c.make_files.ensures
