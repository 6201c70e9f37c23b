use Rattle.files.proofs.EntryLaws.{entries_left, od_fails, od_fill_fails, od_filled}
use Rattle.files.proofs.entry.object_directory.Goals as goal

pub returns-in_err-read : goal.returns-in_err-read
returns-in_err-read c = entries_left c.from_residual.ensures (od_fails c.in_err-read.ensures)

pub returns-in_err-at : goal.returns-in_err-at
returns-in_err-at c = entries_left c.from_residual-in_err-at.ensures (od_fill_fails c.in_ok-read.ensures c.in_err-at.ensures)

pub returns : goal.returns
returns c = od_filled c.in_ok-read.ensures c.in_ok-at.ensures
