use Rattle.rules.specs.Layouts as layouts
use Rattle.objects.specs.DidLaws.{did_left, did_fails, did_ends}
use Rattle.objects.proofs.class.subclass.Goals as goal

pub returns-in_err-at : goal.returns-in_err-at
unfolding layouts.subclass
returns-in_err-at c = record { is = λ at. did_left c.from_residual.ensures (did_fails c.in_err-at.ensures _) }

pub returns : goal.returns
unfolding layouts.subclass
returns c = record { is = λ at. did_ends c.in_ok-at.ensures _ c.ended.ensures }
