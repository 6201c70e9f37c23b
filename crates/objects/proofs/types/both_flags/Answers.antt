use Rattle.std.proofs.Common.{sym, ap, ◌∙◌}
use Rattle.objects.specs.Did.{flags_set, both_flags}
use Rattle.objects.proofs.types.both_flags.Goals as goal

pub returns-in-Ok : goal.returns-in-Ok
unfolding both_flags
returns-in-Ok c = ap flags_set (sym c.in-Ok.is ∙ c.element.ensures)

pub returns-in-Err : goal.returns-in-Err
unfolding both_flags
returns-in-Err c = ap flags_set (sym c.in-Err.is ∙ c.element.ensures)
