use Prim.Native.Nat.{◌+◌}
use Rattle.rules.specs.BookLaws.{ends_least, ends_good, ends_cut}
use native.Mathlib.Omega.{arith}
use borrow.Author.Rules.{rules}
use Rattle.rules.proofs.book.record_end.Goals as goal

pub returns-then-n-lt2 : goal.returns-then-n-lt2
returns-then-n-lt2 c = search (ends_least, ends_good, ends_cut, rules)

pub overflow_add-i-2 : goal.overflow_add-i-2
overflow_add-i-2 c = omega (arith, c.word-n.ensures, c.shared_slice_known-1.given c.args.i, c.shared_slice_known-1.given (c.args.i + 1))

pub returns-then-b-i : goal.returns-then-b-i
returns-then-b-i c = search (ends_least, ends_good, ends_cut, rules)

pub returns : goal.returns
returns c = search (ends_least, ends_good, ends_cut, rules)
