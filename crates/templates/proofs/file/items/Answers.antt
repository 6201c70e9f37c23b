use Rattle.objects.specs.DidLaws.{did_left}
use Rattle.templates.proofs.TemplateLaws.{turning_start, turning_fails, turning_less, turning_next, turning_all}
use borrow.Author.Rules.{rules}
use Rattle.templates.proofs.file.items.Goals as goal

pub loop-out-init : goal.loop-out-init
loop-out-init c = search (turning_start, rules)

pub returns-in_err-at : goal.returns-in_err-at
returns-in_err-at c = did_left c.from_residual.ensures (turning_fails c.loop-out.invariant c.goes_on.ensures c.loop-out-test.true c.item.ensures.0 c.in_err-at.was)

pub loop-out-smaller : goal.loop-out-smaller
loop-out-smaller c = turning_less c.loop-out.invariant c.goes_on.ensures c.loop-out-test.true c.item.ensures.0 c.in_ok-at.was c.item.ensures.1

pub loop-out-preserved : goal.loop-out-preserved
loop-out-preserved c = turning_next c.loop-out.invariant c.goes_on.ensures c.loop-out-test.true c.item.ensures.0 c.in_ok-at.was c.item.ensures.1

pub returns : goal.returns
returns c = turning_all c.loop-out.invariant c.goes_on.ensures c.loop-out-test.false
