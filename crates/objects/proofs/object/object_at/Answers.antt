use native.Mathlib.Omega.{arith}
use Rattle.std.proofs.Common.{refl}
use borrow.Author.Tests.{lt-ltb, le-ltb}
use Rattle.elements.specs.AnswerLaws.{leaves}
use Rattle.rules.specs.Entries as entries
use Rattle.rules.specs.Objects.{object_body}
use Rattle.objects.specs.Did.{fell}
use Rattle.objects.specs.DidLaws.{element_fails, element_here, head_low, head_element, forward_in, forward_fails}
use Rattle.objects.proofs.object.object_at.Goals as goal

pub returns-then-k-ge128 : goal.returns-then-k-ge128
unfolding entries.object
returns-then-k-ge128 c = (rw (le-ltb c.args.k 128 (omega arith)) (fell refl), forward_fails _ _)

pub returns-in_err-x : goal.returns-in_err-x
unfolding entries.object object_body
returns-in_err-x c = rw (leaves c.from_residual.ensures) (rw (lt-ltb c.args.k 128 (omega arith)) (element_fails _ _ _ _ c.in_err-x.ensures _ _), forward_fails _ _)

pub object_body-requires : goal.object_body-requires
object_body-requires c = head_element _ _ _ c.in_ok-x.ensures c.requires

pub returns : goal.returns
unfolding entries.object object_body
returns c = (rw (lt-ltb c.args.k 128 (omega arith)) (element_here _ _ _ _ c.in_ok-x.ensures c.object_body.ensures), forward_in _ (head_low _ _ _ c.in_ok-x.ensures) c.object_body.ensures)
