use Rattle.rules.specs.Layouts as layouts
use Rattle.objects.specs.DidLaws.{did_left, did_then, did_fails}
use Rattle.objects.proofs.PartLaws.{did_quiet}
use Rattle.objects.proofs.common.rule.Goals as goal

pub returns-in_err-at : goal.returns-in_err-at
unfolding layouts.rule
returns-in_err-at c = record { is = λ at. did_left c.from_residual.ensures (did_fails (did_fails c.in_err-at.ensures _) _) }

pub returns-in_err-at-2 : goal.returns-in_err-at-2
unfolding layouts.rule
returns-in_err-at-2 c = record { is = λ at. did_left c.from_residual-in_err-at-2.ensures (did_fails (did_then c.in_ok-at.ensures _ (did_quiet c.in_err-at-2.ensures.0)) _) }

pub returns : goal.returns
unfolding layouts.rule
returns c = record { is = λ at. did_then (did_then c.in_ok-at.ensures _ (did_quiet c.in_ok-at-2.ensures.0)) _ c.rest_in.ensures }
