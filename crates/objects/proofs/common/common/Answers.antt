use Rattle.rules.specs.Layouts as layouts
use Rattle.objects.specs.DidLaws.{did_left, did_then, did_fails}
use Rattle.objects.proofs.common.common.Goals as goal

pub returns-in_err-at : goal.returns-in_err-at
unfolding layouts.common
returns-in_err-at c = record { is = λ at. did_left c.from_residual.ensures (did_fails (did_fails c.in_err-at.ensures _) _) }

pub returns-in_err-at-2 : goal.returns-in_err-at-2
unfolding layouts.common
returns-in_err-at-2 c = record { is = λ at. did_left c.from_residual-in_err-at-2.ensures (did_fails (did_then c.in_ok-at.ensures _ c.in_err-at-2.ensures) _) }

pub returns : goal.returns
unfolding layouts.common
returns c = record { is = λ at. did_then (did_then c.in_ok-at.ensures _ c.in_ok-at-2.ensures) _ c.rest_in.ensures }
