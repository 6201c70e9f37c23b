use Rattle.elements.specs.AnswerLaws.{leaves}
use Rattle.reader.proofs.FrameLaws.{frame_broken, frame_file, frame_inner, frame_start, inner_none}
use borrow.Author.Rules.{rules}
use Rattle.reader.proofs.frame.frame.Goals as goal

pub returns-in_err-x : goal.returns-in_err-x
returns-in_err-x c = rw (leaves c.from_residual.ensures) (frame_broken c.record_at.ensures c.in_err-x.was, inner_none _ _ _ _)

pub file_in-requires : goal.file_in-requires
file_in-requires c = search (frame_start, rules)

pub returns : goal.returns
returns c = (frame_file c.record_at.ensures c.in_ok-x.was _ c.file_in.ensures, frame_inner c.record_at.ensures c.in_ok-x.was _ c.file_in.ensures)
