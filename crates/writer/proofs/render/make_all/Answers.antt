use Rattle.rules.specs.Render.{r_framed, r_cia}
use Rattle.makers.specs.MadeLaws.{enclosed, made_left_by, making, next_long, next_took}
use Rattle.writer.specs.Composed.{od_and_files}
use borrow.Author.Rules.{rules}
use Rattle.writer.proofs.render.make_all.Goals as goal

pub returns-in_err-made : goal.returns-in_err-made
returns-in_err-made c = made_left_by (next_long (r_framed 1 r_cia) od_and_files (enclosed r_cia c.in_err-made.ensures (λ x out m out' g. search rules))) c.from_residual.ensures

pub make_rest-requires : goal.make_rest-requires
make_rest-requires c = making (enclosed r_cia {b = c.args.b.now} c.in_ok-made.ensures (λ x out m out' g. search rules)) (search rules) (search rules)

pub returns : goal.returns
returns c = next_took (r_framed 1 r_cia) od_and_files (enclosed r_cia c.in_ok-made.ensures (λ x out m out' g. search rules)) c.make_rest.ensures
