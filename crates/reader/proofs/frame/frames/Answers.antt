use Rattle.elements.specs.AnswerLaws.{leaves}
use Rattle.reader.proofs.FrameLaws.{chained_none, chained_high, chained_broken, chained_next, chained_less, chained_all}
use borrow.Author.Rules.{rules}
use Rattle.reader.proofs.frame.frames.Goals as goal

pub loop-i-init : goal.loop-i-init
loop-i-init c = search (chained_none, rules)

pub whole_frame-requires : goal.whole_frame-requires
whole_frame-requires c = search (chained_high, rules)

pub returns-in_err-file : goal.returns-in_err-file
returns-in_err-file c = rw (leaves c.from_residual.ensures) (chained_broken c.loop-i.invariant c.loop-i-test.true _ c.whole_frame.ensures.0 c.in_err-file.was)

pub loop-i-smaller : goal.loop-i-smaller
loop-i-smaller c = chained_less c.loop-i.invariant c.loop-i-test.true _ c.whole_frame.ensures.0 c.whole_frame.ensures.1 c.in_ok-file.was

pub loop-i-preserved : goal.loop-i-preserved
loop-i-preserved c = chained_next c.loop-i.invariant c.loop-i-test.true _ c.whole_frame.ensures.0 c.whole_frame.ensures.1 c.in_ok-file.was

pub returns : goal.returns
returns c = search (chained_all, rules)
