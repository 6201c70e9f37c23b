use Rattle.objects.specs.DidLaws.{did_ends}
use Rattle.objects.proofs.types.type_body.Goals as goal

pub returns : goal.returns
returns c = record { is = λ at. did_ends c.in_ok-at.ensures _ c.ended.ensures }
