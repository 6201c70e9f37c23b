use Rattle.files.specs.ObjectsLaws.{objects_left}
use Rattle.files.proofs.HolderLaws.{objects_start, objects_second, objects_broke, objects_next, objects_less, objects_all}
use Rattle.std.proofs.Common.{refl}
use borrow.Author.Rules.{rules}
use Rattle.files.proofs.holder.objects.Goals as goal

pub loop-x-init : goal.loop-x-init
loop-x-init c = search (objects_start, rules)

pub returns-then-is_full : goal.returns-then-is_full
returns-then-is_full c = search (objects_second, rules)

pub returns-in_err-next : goal.returns-in_err-next
returns-in_err-next c = objects_left c.from_residual.ensures (objects_broke c.loop-x.invariant c.more_at.ensures c.loop-x-test.true c.is_full.ensures c.if-is_full.false c.in_err-next.ensures.0)

pub loop-x-smaller : goal.loop-x-smaller
loop-x-smaller c = search (objects_less, rules)

pub loop-x-preserved : goal.loop-x-preserved
loop-x-preserved c = objects_next c.loop-x.invariant c.more_at.ensures c.loop-x-test.true c.is_full.ensures c.if-is_full.false c.in_ok-next.ensures.0 c.in_ok-next.ensures.1 c.put-j.ensures refl

pub returns : goal.returns
returns c = objects_all c.loop-x.invariant c.more_at.ensures c.loop-x-test.false
