use borrow.Author.Rules.{rules}
use native.Mathlib.Omega.{arith}
use Rattle.links.specs.BookFacts.{book_start}
use Rattle.links.proofs.ServiceLaws.{place_no, place_low, place_high, place_by}
use Rattle.links.proofs.fields.field_place.Goals as goal

pub returns-then-not-is_book : goal.returns-then-not-is_book
returns-then-not-is_book c = place_no c.is_book.ensures _ _ c.if-not-is_book.true (λ i. omega (arith, c.type_inv.book i))

pub sought-requires : goal.sought-requires
sought-requires c = search (book_start, rules)

pub returns-in-289-to-511 : goal.returns-in-289-to-511
returns-in-289-to-511 c = search (place_by, rules)

pub returns-in_default : goal.returns-in_default
returns-in_default c = search (place_low, rules)

pub returns-in_default-2 : goal.returns-in_default-2
returns-in_default-2 c = search (place_high, rules)
