use Rattle.objects.specs.DidLaws.{did_left, did_fails, did_then, did_high, did_small}
use Rattle.templates.proofs.TemplateLaws.{settled_fails, settled_passes}
use Rattle.templates.proofs.template.from_name.Goals as goal

pub returns-in_err-path : goal.returns-in_err-path
returns-in_err-path c = did_left c.from_residual-in_err-path.ensures (did_then c.in_ok-label.ensures _ (did_fails c.in_err-path.ensures _))

pub returns-in_err-inner : goal.returns-in_err-inner
returns-in_err-inner c = did_left c.from_residual-in_err-inner.ensures (did_then c.in_ok-label.ensures _ (did_then c.in_ok-path.ensures _ (did_fails c.in_err-inner.ensures _)))

pub returns-in_err-last : goal.returns-in_err-last
returns-in_err-last c = did_left c.from_residual-in_err-last.ensures (did_then c.in_ok-label.ensures _ (did_then c.in_ok-path.ensures _ (did_then c.in_ok-inner.ensures _ (did_fails c.in_err-last.ensures _))))

pub returns-then-is_unreached : goal.returns-then-is_unreached
returns-then-is_unreached c = did_then c.in_ok-label.ensures _ (did_then c.in_ok-path.ensures _ (did_then c.in_ok-inner.ensures _ (did_then c.in_ok-last.ensures _ (settled_fails c.args.mine c.in_ok-label.label.dump c.in_ok-path.path.dump c.in_ok-inner.inner.dump c.args.end _ c.is_unreached.ensures _ _ c.if-is_unreached.true))))

pub returns : goal.returns
returns c = did_then c.in_ok-label.ensures _ (did_then c.in_ok-path.ensures _ (did_then c.in_ok-inner.ensures _ (did_then c.in_ok-last.ensures _ (settled_passes c.args.mine c.in_ok-label.label.dump c.in_ok-path.path.dump c.in_ok-inner.inner.dump c.args.end _ c.is_unreached.ensures _ _ (did_high c.in_ok-last.ensures) (did_small c.in_ok-last.ensures) c.if-is_unreached.false))))
