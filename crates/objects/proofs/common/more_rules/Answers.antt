use borrow.Author.Rules.{rules}
use Rattle.elements.specs.AnswerLaws.{leaves}
use Rattle.objects.proofs.RuleLaws.{ruling_none, ruling_fell, ruling_next, ruling_all}
use Rattle.objects.proofs.common.more_rules.Goals as goal

pub loop-n-init : goal.loop-n-init
loop-n-init c = search (ruling_none, rules)

pub returns-in_err-n : goal.returns-in_err-n
returns-in_err-n c = rw (leaves c.from_residual.ensures) (ruling_fell c.loop-n.invariant c.loop-n-test.true c.in_err-n.ensures.0)

pub loop-n-preserved : goal.loop-n-preserved
loop-n-preserved c = ruling_next c.loop-n.invariant c.loop-n-test.true c.in_ok-n.ensures.0 c.in_ok-n.ensures.1

pub returns : goal.returns
returns c = ruling_all c.loop-n.invariant c.loop-n-test.false
