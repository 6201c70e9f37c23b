use Rattle.rules.specs.Layouts as layouts
use Rattle.objects.specs.DidLaws.{did_left, did_then, did_fails}
use Rattle.objects.proofs.common.rules.Goals as goal

pub returns-in_err-at : goal.returns-in_err-at
unfolding layouts.rules
returns-in_err-at c = record { is = λ at. did_left c.from_residual.ensures (did_fails c.in_err-at.ensures.0 _) }

pub returns : goal.returns
unfolding layouts.rules
returns c = record { is = λ at. did_then c.in_ok-at.ensures.0 _ c.more_rules.ensures }
