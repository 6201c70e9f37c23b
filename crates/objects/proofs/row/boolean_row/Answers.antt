use Rattle.std.proofs.Common.{sym, ◌∙◌, refl}
use native.Mathlib.Omega.{arith}
use Rattle.rules.specs.Parts.{payload}
use Rattle.objects.specs.Did.{fell}
use Rattle.objects.specs.DidLaws.{did_one}
use Rattle.objects.proofs.row.boolean_row.Goals as goal

pub returns-then-is_default : goal.returns-then-is_default
unfolding payload
returns-then-is_default c = rw (sym c.is_default.ensures ∙ c.if-is_default.true) (fell refl)

pub returns : goal.returns
unfolding payload
returns c = rw (sym c.is_default.ensures ∙ c.if-is_default.false) (did_one _ _ _ _ c.put_one-book.ensures.1 (omega arith) (omega arith))
