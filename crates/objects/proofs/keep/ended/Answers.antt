use Rattle.std.proofs.Math.Path.{sym}
use Rattle.rules.specs.Parts.{ended}
use Rattle.objects.specs.DidLaws.{did_none, did_fell, did_left}
use Rattle.objects.proofs.Auto.{tests}
use Rattle.objects.proofs.keep.ended.Goals as goal

pub returns-then-end-at : goal.returns-then-end-at
unfolding ended
returns-then-end-at c = record { is = λ x. search (tests, did_none) }

pub returns-in_err-header : goal.returns-in_err-header
unfolding ended
returns-in_err-header c = record { is = λ x. did_left c.from_residual.ensures (search (tests, sym c.in_err-header.ensures, did_fell)) }

pub returns : goal.returns
unfolding ended
returns c = record { is = λ x. search (tests, sym c.in_ok-header.ensures, did_fell) }
