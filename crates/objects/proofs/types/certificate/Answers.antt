use Rattle.rules.specs.Layouts as layouts
use Rattle.objects.specs.DidLaws.{did_left, did_then, did_fails}
use Rattle.objects.proofs.types.certificate.Goals as goal

pub returns-in_err-at : goal.returns-in_err-at
unfolding layouts.certificate
returns-in_err-at c = record { is = λ at. did_left c.from_residual.ensures (did_fails c.in_err-at.ensures _) }

pub returns : goal.returns
unfolding layouts.certificate
returns c = record { is = λ at. did_then c.in_ok-at.ensures _ c.rest.ensures }
