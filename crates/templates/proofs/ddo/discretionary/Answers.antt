use Rattle.objects.specs.DidLaws.{did_left, did_fails, did_then}
use Rattle.templates.proofs.ddo.discretionary.Goals as goal

pub returns-in_err-odf : goal.returns-in_err-odf
returns-in_err-odf c = did_left c.from_residual-in_err-odf.ensures (did_fails (did_fails (did_fails (did_fails (did_then (c.in_ok-provider.ensures) _ c.in_err-odf.ensures) _) _) _) _)

pub returns-in_err-info : goal.returns-in_err-info
returns-in_err-info c = did_left c.from_residual-in_err-info.ensures (did_fails (did_fails (did_fails (did_then (did_then (c.in_ok-provider.ensures) _ c.in_ok-odf.ensures) _ c.in_err-info.ensures) _) _) _)

pub returns-in_err-aid : goal.returns-in_err-aid
returns-in_err-aid c = did_left c.from_residual-in_err-aid.ensures (did_fails (did_fails (did_then (did_then (did_then (c.in_ok-provider.ensures) _ c.in_ok-odf.ensures) _ c.in_ok-info.ensures) _ c.in_err-aid.ensures) _) _)

pub returns-in_err-set : goal.returns-in_err-set
returns-in_err-set c = did_left c.from_residual-in_err-set.ensures (did_fails (did_then (did_then (did_then (did_then (c.in_ok-provider.ensures) _ c.in_ok-odf.ensures) _ c.in_ok-info.ensures) _ c.in_ok-aid.ensures) _ c.in_err-set.ensures) _)

pub returns : goal.returns
returns c = did_then (did_then (did_then (did_then (did_then (c.in_ok-provider.ensures) _ c.in_ok-odf.ensures) _ c.in_ok-info.ensures) _ c.in_ok-aid.ensures) _ c.in_ok-set.ensures) _ c.rest_in.ensures
