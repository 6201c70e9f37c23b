use borrow.Author.Rules.{rules}
use native.Mathlib.Omega.{arith}
use Rattle.links.specs.BookFacts.{book_start, book_few}
use Rattle.links.proofs.ServiceLaws.{list_yes, list_no}
use Rattle.links.proofs.listing.list.Goals as goal

pub returns-then-not-is_book : goal.returns-then-not-is_book
returns-then-not-is_book c = list_no c.is_book.ensures c.if-not-is_book.true (λ i. omega (arith, c.type_inv.book i))

pub list_by-requires : goal.list_by-requires
list_by-requires c = search (book_start, book_few, rules)

pub returns : goal.returns
returns c = search (list_yes, rules)
