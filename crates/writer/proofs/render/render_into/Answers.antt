use Rattle.makers.specs.MadeLaws.{making, next_there}
use Rattle.writer.proofs.RenderLaws.{fitted_left_by, whole_long, whole_alone, whole_behind}
use borrow.Author.Rules.{rules}
use Rattle.writer.proofs.render.render_into.Goals as goal

pub returns-in_err-made : goal.returns-in_err-made
returns-in_err-made c = fitted_left_by (whole_long c.in_err-made.ensures) c.from_residual.ensures

pub make_behind_dir-requires : goal.make_behind_dir-requires
make_behind_dir-requires c = let next = making c.in_ok-made.ensures (search rules) (search rules) in (next_there _ _ _ c.is_next.ensures c.if-is_next.true, (next.0, next.1, search rules, next.3))

pub returns-then-is_next : goal.returns-then-is_next
returns-then-is_next c = whole_behind c.in_ok-made.ensures c.is_next.ensures c.if-is_next.true c.make_behind_dir.ensures

pub returns : goal.returns
returns c = whole_alone c.in_ok-made.ensures c.is_next.ensures c.if-is_next.false
