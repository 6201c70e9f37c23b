use Rattle.objects.specs.DidLaws.{did_left, did_fails, did_then}
use Rattle.rules.specs.Files.{dir}
use Rattle.templates.proofs.file.dir.Goals as goal

pub returns-in_err-at : goal.returns-in_err-at
unfolding dir
returns-in_err-at c = did_left c.from_residual.ensures (did_fails c.in_err-at.ensures _)

pub returns : goal.returns
unfolding dir
returns c = did_then c.in_ok-at.ensures _ c.fill.ensures
