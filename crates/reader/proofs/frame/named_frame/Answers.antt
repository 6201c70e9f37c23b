use Rattle.elements.specs.AnswerLaws.{leaves}
use Rattle.reader.proofs.FrameLaws.{span_low, span_high, named_broken, named_framed, named_path_lem, named_inner, inner_none, path_none}
use Rattle.reader.proofs.frame.named_frame.Goals as goal

pub returns-in_err-x : goal.returns-in_err-x
returns-in_err-x c = rw (leaves c.from_residual.ensures) (named_broken c.record_at.ensures c.in_err-x.was, inner_none _ _ _ _, path_none _ _ _ _)

pub named_file-requires : goal.named_file-requires
named_file-requires c = (span_low c.record_at.ensures c.in_ok-x.was, span_high c.record_at.ensures c.in_ok-x.was, c.requires.1)

pub returns : goal.returns
returns c = (named_framed c.record_at.ensures c.in_ok-x.was _ c.named_file.ensures, named_inner c.record_at.ensures c.in_ok-x.was _ c.named_file.ensures, named_path_lem c.record_at.ensures c.in_ok-x.was _ c.named_file.ensures)
