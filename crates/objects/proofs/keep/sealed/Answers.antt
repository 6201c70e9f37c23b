use Rattle.std.proofs.Common.{sym}
use Rattle.rules.specs.Parts.{sealed}
use Rattle.objects.specs.DidLaws.{did_left, did_fell, did_one}
use borrow.Author.Rules.{rules}
use Rattle.objects.proofs.keep.sealed.Goals as goal

pub returns-in_err-inner_run : goal.returns-in_err-inner_run
unfolding sealed
returns-in_err-inner_run c = did_left c.from_residual.ensures (search (sym c.in_err-inner_run.ensures, did_fell))

pub returns : goal.returns
unfolding sealed
returns c = search (sym c.in_ok-inner_run.ensures, did_one, rules)
