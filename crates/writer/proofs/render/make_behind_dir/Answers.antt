use Rattle.rules.specs.Render.{r_dir}
use Rattle.makers.specs.MadeLaws.{enclosed, making}
use Rattle.writer.proofs.RenderLaws.{fitted_left_by, behind_long, behind_took}
use borrow.Author.Rules.{rules}
use Rattle.writer.proofs.render.make_behind_dir.Goals as goal

pub returns-in_err-made : goal.returns-in_err-made
returns-in_err-made c = fitted_left_by (behind_long (enclosed r_dir {b = c.args.b.now} c.in_err-made.ensures (λ x out m out' g. search rules))) c.from_residual.ensures

pub make_all-requires : goal.make_all-requires
make_all-requires c = let next = making (enclosed r_dir {b = c.args.b.now} c.in_ok-made.ensures (λ x out m out' g. search rules)) (search rules) (search rules) in (search rules, search rules, next.2, next.3)

pub returns : goal.returns
returns c = behind_took (enclosed r_dir {b = c.args.b.now} c.in_ok-made.ensures (λ x out m out' g. search rules)) c.make_all.ensures
