use Rattle.objects.specs.DidLaws.{did_left}
use Rattle.files.proofs.FillLaws.{more_filled, more_bad, more_one}
use borrow.Author.Rules.{rules}
use Rattle.files.proofs.cia.info_fill.Goals as goal

pub returns-in_err-header : goal.returns-in_err-header
returns-in_err-header c = did_left c.from_residual.ensures (more_bad _ _ _ c.goes_on.ensures c.if-goes_on.true _ _ c.in_err-header.ensures)

pub returns-then-goes_on : goal.returns-then-goes_on
returns-then-goes_on c = search (more_one, rules)

pub returns : goal.returns
returns c = search (more_filled, rules)
