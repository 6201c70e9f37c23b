use Rattle.objects.specs.DidLaws.{did_left, did_then, did_fails}
use Rattle.objects.proofs.object.attributes.Goals as goal

pub returns-in_err-at-2 : goal.returns-in_err-at-2
returns-in_err-at-2 c = did_left c.from_residual-in_err-at-2.ensures (did_fails (did_then c.in_ok-at.ensures _ (rw c.class_of.ensures at c.in_err-at-2.ensures)) _)

pub returns : goal.returns
returns c = did_then (did_then c.in_ok-at.ensures _ (rw c.class_of.ensures at c.in_ok-at-2.ensures)) _ c.due_subclass.ensures
