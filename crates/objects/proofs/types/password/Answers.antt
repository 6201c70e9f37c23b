use Rattle.std.proofs.Common.{sym, ◌∙◌}
use Rattle.objects.specs.DidLaws.{did_left}
use Rattle.objects.proofs.PasswordLaws.{password_fails, password_both, password_plain}
use Rattle.objects.proofs.types.password.Goals as goal

pub returns-in_err-n : goal.returns-in_err-n
returns-in_err-n c = did_left c.from_residual.ensures (password_fails _ _ c.in_err-n.ensures)

pub returns-then-both_flags : goal.returns-then-both_flags
returns-then-both_flags c = password_both _ _ c.in_ok-n.ensures (sym c.both_flags.ensures ∙ c.if-both_flags.true)

pub returns : goal.returns
returns c = password_plain _ _ c.in_ok-n.ensures (sym c.both_flags.ensures ∙ c.if-both_flags.false)
