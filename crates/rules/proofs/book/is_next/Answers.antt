use Rattle.rules.specs.BookLaws.{next_none, next_some}
use borrow.Author.Rules.{rules}
use Rattle.rules.proofs.book.is_next.Goals as goal

pub returns-then-b-i : goal.returns-then-b-i
returns-then-b-i c = search (next_none, next_some, rules)

pub returns : goal.returns
returns c = search (next_none, next_some, rules)
