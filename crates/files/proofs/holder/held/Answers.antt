use Rattle.files.specs.ObjectsLaws.{objects_left}
use Rattle.files.proofs.HolderLaws.{held_fails, held_fill_fails, held_filled}
use Rattle.files.proofs.holder.held.Goals as goal

pub returns-in_err-at : goal.returns-in_err-at
returns-in_err-at c = objects_left c.from_residual.ensures (held_fails c.args.s.now c.args.x c.args.kind c.args.site c.args.entry c.in_err-at.ensures)

pub returns-in_err-at-2 : goal.returns-in_err-at-2
returns-in_err-at-2 c = objects_left c.from_residual-in_err-at-2.ensures (held_fill_fails c.args.s.now c.args.x c.args.kind c.args.site c.args.entry c.in_ok-at.ensures c.in_err-at-2.ensures)

pub returns : goal.returns
returns c = held_filled c.args.s.now c.args.x c.args.kind c.args.site c.args.entry c.in_ok-at.ensures c.in_ok-at-2.ensures
