use borrow.Author.Rules.{rules}
use native.Mathlib.Omega.{arith}
use Rattle.links.specs.BookFacts.{book_start, book_few}
use Rattle.why.proofs.WhyLaws.{why_yes, why_no}
use Rattle.why.proofs.whys.why.Goals as goal

pub returns-then-not-is_book : goal.returns-then-not-is_book
returns-then-not-is_book c = why_no c.is_book.ensures _ c.if-not-is_book.true (λ i. omega (arith, c.type_inv.book i))

pub of-requires : goal.of-requires
of-requires c = search (book_start, book_few, rules)

pub row_told-requires : goal.row_told-requires
row_told-requires c = search (book_start, rules)

pub returns : goal.returns
returns c = search (why_yes, rules)
