use Rattle.rules.specs.Layouts as layouts
use Rattle.objects.specs.DidLaws.{did_left, did_then, did_ends, did_fails}
use Rattle.objects.proofs.object.contents.Goals as goal

pub returns-in_err-at : goal.returns-in_err-at
unfolding layouts.contents
returns-in_err-at c = did_left c.from_residual.ensures (did_fails (did_fails c.in_err-at.ensures _) _)

pub returns-in_err-at-2 : goal.returns-in_err-at-2
unfolding layouts.contents
returns-in_err-at-2 c = did_left c.from_residual-in_err-at-2.ensures (did_fails (did_then c.in_ok-at.ensures _ (rw c.type_of.ensures at c.in_err-at-2.ensures)) _)

pub returns : goal.returns
unfolding layouts.contents
returns c = did_ends (did_then c.in_ok-at.ensures _ (rw c.type_of.ensures at c.in_ok-at-2.ensures)) _ c.ended.ensures
