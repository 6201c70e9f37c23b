use Rattle.std.proofs.Common.{sym}
use Rattle.rules.specs.Layouts as layouts
use Rattle.objects.specs.DidLaws.{did_left, did_fell, did_one}
use borrow.Author.Rules.{rules}
use Rattle.objects.proofs.class.container.Goals as goal

pub returns-in_err-sealed : goal.returns-in_err-sealed
unfolding layouts.class
returns-in_err-sealed c = did_left c.from_residual.ensures (search (sym c.in_err-sealed.ensures, did_fell))

pub returns : goal.returns
unfolding layouts.class
returns c = search (sym c.in_ok-sealed.ensures, did_one, rules)
