use borrow.Author.Rules.{rules}
use Rattle.files.proofs.FillLaws.{fill_none, fill_differs, fill_put}
use Rattle.files.proofs.fills.fill.Goals as goal

pub returns-then-end-at : goal.returns-then-end-at
returns-then-end-at c = search (fill_none, fill_differs, fill_put, rules)

pub returns-then-i-end : goal.returns-then-i-end
returns-then-i-end c = search (fill_none, fill_differs, fill_put, rules)

pub returns : goal.returns
returns c = search (fill_none, fill_differs, fill_put, rules)
