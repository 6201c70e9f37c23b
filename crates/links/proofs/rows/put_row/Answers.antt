use borrow.Author.Rules.{rules}
use Rattle.links.proofs.RowLaws.{row_before, row_in}
use Rattle.links.proofs.rows.put_row.Goals as goal

pub returns-then-o-w : goal.returns-then-o-w
returns-then-o-w c = search row_before

pub returns : goal.returns
returns c = search (row_in, rules)
