use Rattle.rules.specs.BookLaws.{name_kind, name_short, name_byte}
use borrow.Author.Rules.{rules}
use Rattle.rules.proofs.book.is_name.Goals as goal

pub returns-then-word-ne272 : goal.returns-then-word-ne272
returns-then-word-ne272 c = search (name_kind, rules)

pub returns-then-e-j-lt2 : goal.returns-then-e-j-lt2
returns-then-e-j-lt2 c = search (name_short, rules)

pub returns : goal.returns
returns c = search (name_byte, rules)
