use Rattle.elements.specs.AnswerLaws.{leaves}
use Rattle.writer.proofs.RenderLaws.{filing_start, filing_done, filing_pass, filing_long, filing_more}
use borrow.Author.Rules.{rules}
use Rattle.writer.proofs.render.make_files.Goals as goal

pub loop-k-init : goal.loop-k-init
loop-k-init c = search (filing_start, rules)

pub returns-in_err-done : goal.returns-in_err-done
returns-in_err-done c = rw (leaves c.from_residual.ensures) (filing_long c.loop-k.invariant c.loop-k-test.true c.record_end-e.ensures c.is_name.ensures c.if-is_name.true c.in_err-done.ensures)

pub loop-k-preserved-in_ok-done : goal.loop-k-preserved-in_ok-done
loop-k-preserved-in_ok-done c = filing_more c.loop-k.invariant c.loop-k-test.true c.record_end-e.ensures c.is_name.ensures c.if-is_name.true c.in_ok-done.ensures

pub loop-k-preserved : goal.loop-k-preserved
loop-k-preserved c = search (filing_pass, rules)

pub returns : goal.returns
returns c = search (filing_done, rules)
