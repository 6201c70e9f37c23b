use Rattle.std.proofs.Math.Path.{sym}
use Rattle.rules.specs.Parts.{rest}
use Rattle.objects.specs.DidLaws.{did_none, did_fell, did_one, did_left}
use borrow.Author.Rules.{rules}
use Rattle.objects.proofs.Auto.{tests}
use Rattle.objects.proofs.keep.rest.Goals as goal

pub returns-then-end-at : goal.returns-then-end-at
unfolding rest
returns-then-end-at c = search (tests, did_none)

pub returns-in_err-sealed : goal.returns-in_err-sealed
unfolding rest
returns-in_err-sealed c = did_left c.from_residual.ensures (search (tests, sym c.in_err-sealed.ensures, did_fell))

pub returns : goal.returns
unfolding rest
returns c = search (tests, sym c.in_ok-sealed.ensures, did_one, rules)
