use Rattle.std.proofs.Common.{sym, ◌∙◌, refl}
use native.Mathlib.Omega.{arith}
use Rattle.objects.specs.Did.{fell}
use Rattle.objects.specs.DidLaws.{did_one}
use Rattle.objects.proofs.row.bytes_row.Goals as goal

pub returns-then-in_bounds : goal.returns-then-in_bounds
returns-then-in_bounds c = rw (sym c.in_bounds.ensures ∙ c.if-in_bounds.true) (did_one _ _ _ _ c.put_record-book.ensures.1 (omega arith) (omega arith))

pub returns : goal.returns
returns c = rw (sym c.in_bounds.ensures ∙ c.if-in_bounds.false) (fell refl)
