use Rattle.rules.specs.BookLaws.{byte_none, byte_some}
use borrow.Author.Rules.{rules}
use Rattle.rules.proofs.book.byte_at.Goals as goal

pub returns-then-e-p : goal.returns-then-e-p
returns-then-e-p c = search (byte_none, byte_some, rules)

pub returns : goal.returns
returns c = search (byte_none, byte_some, rules)
