use borrow.Author.Rules.{rules}
use Rattle.files.proofs.FillLaws.{on_end, on_zero, on_other}
use Rattle.files.proofs.fills.goes_on.Goals as goal

pub returns-then-end-at : goal.returns-then-end-at
returns-then-end-at c = search (on_end, on_zero, on_other, rules)

pub returns-then-b-eq0 : goal.returns-then-b-eq0
returns-then-b-eq0 c = search (on_end, on_zero, on_other, rules)

pub returns : goal.returns
returns c = search (on_end, on_zero, on_other, rules)
