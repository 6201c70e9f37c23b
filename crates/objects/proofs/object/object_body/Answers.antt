use Rattle.std.proofs.Common.{sym, ◌∙◌, refl}
use Rattle.rules.specs.Objects.{object_body}
use Rattle.objects.specs.Did.{fell}
use Rattle.objects.proofs.PartLaws.{did_counts, before}
use Rattle.objects.proofs.object.object_body.Goals as goal

pub returns-then-is_object : goal.returns-then-is_object
unfolding object_body
returns-then-is_object c = rw (sym c.is_object.ensures ∙ c.if-is_object.true) (did_counts _ (before _ _ (rw c.saturating_sub-offset.ensures at c.put_numbers-book.ensures.1) c.contents.ensures))

pub returns : goal.returns
unfolding object_body
returns c = rw (sym c.is_object.ensures ∙ c.if-is_object.false) (fell refl)
