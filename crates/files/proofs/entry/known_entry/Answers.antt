use Rattle.files.specs.ObjectsLaws.{objects_left, objects_fails, objects_ends, objects_ends_fell}
use Rattle.files.proofs.EntryLaws.{plain_ended}
use Rattle.files.proofs.entry.known_entry.Goals as goal

pub returns-in_err-at : goal.returns-in_err-at
returns-in_err-at c = objects_left c.from_residual.ensures (objects_fails c.in_err-at.ensures _)

pub returns-in_err-at-2 : goal.returns-in_err-at-2
returns-in_err-at-2 c = objects_left c.from_residual-in_err-at-2.ensures (objects_ends_fell c.in_ok-at.ensures _ c.in_err-at-2.ensures)

pub returns : goal.returns
returns c = objects_ends c.in_ok-at.ensures _ (plain_ended _ _ _) c.in_ok-at-2.ensures
