use Rattle.elements.specs.AnswerLaws.{leaves}
use Rattle.reader.proofs.FrameLaws.{inner_high}
use Rattle.reader.proofs.StageLaws.{heads_first, heads_second, heads_chain, heads_are}
use Rattle.reader.proofs.dump.all_framed.Goals as goal

pub returns-in_err-info : goal.returns-in_err-info
returns-in_err-info c = rw (leaves c.from_residual.ensures) (heads_first _ _ c.frame.ensures.0 c.in_err-info.was)

pub frame-requires-2 : goal.frame-requires-2
frame-requires-2 c = (inner_high c.frame.ensures.1 c.in_ok-info.was, c.requires.1)

pub returns-in_err-main : goal.returns-in_err-main
returns-in_err-main c = rw (leaves c.from_residual-in_err-main.ensures) (heads_second _ _ c.frame.ensures.0 c.in_ok-info.was c.frame-2.ensures.0 c.in_err-main.was)

pub frames-requires : goal.frames-requires
frames-requires c = (inner_high c.frame-2.ensures.1 c.in_ok-main.was, c.requires.1)

pub returns-in_err-frames : goal.returns-in_err-frames
returns-in_err-frames c = rw (leaves c.from_residual-in_err-frames.ensures) (heads_chain _ _ c.frame.ensures.0 c.in_ok-info.was c.frame-2.ensures.0 c.in_ok-main.was c.frames.ensures c.in_err-frames.was)

pub returns : goal.returns
returns c = heads_are _ _ c.frame.ensures.0 c.in_ok-info.was c.frame-2.ensures.0 c.in_ok-main.was c.frames.ensures c.in_ok-frames.was c.frame.ensures.1 c.frame-2.ensures.1
