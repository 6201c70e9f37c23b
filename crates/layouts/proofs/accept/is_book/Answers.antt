use native.Mathlib.Omega.{arith}
use Rattle.layouts.proofs.AcceptLaws.{book_told}
use Rattle.layouts.proofs.accept.is_book.Goals as goal

pub returns : goal.returns
returns c = book_told c.tried.ensures (λ i. omega (arith, c.shared_slice_known-1.given i)) c.is_some.ensures
