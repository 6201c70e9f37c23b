use Rattle.objects.specs.DidLaws.{did_left, did_then, did_fails}
use Rattle.objects.proofs.types.password_parts.Goals as goal

pub returns-in_err-at-2 : goal.returns-in_err-at-2
returns-in_err-at-2 c = did_left c.from_residual-in_err-at-2.ensures (did_fails (did_then c.in_ok-at.ensures _ c.in_err-at-2.ensures) _)

pub returns : goal.returns
returns c = did_then (did_then c.in_ok-at.ensures _ c.in_ok-at-2.ensures) _ c.rest_in.ensures
