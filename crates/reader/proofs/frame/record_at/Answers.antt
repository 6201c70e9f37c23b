use Prim.Native.Nat.{◌+◌}
use native.Mathlib.Omega.{arith}
use borrow.Author.Rules.{rules}
use Rattle.reader.proofs.FrameLaws.{span_missing, span_short, span_small, span_long, span_below, span_above, span_from}
use Rattle.reader.proofs.frame.record_at.Goals as goal

pub returns-then-s-at : goal.returns-then-s-at
returns-then-s-at c = search (span_missing, rules)

pub returns-then-s-at-2 : goal.returns-then-s-at-2
returns-then-s-at-2 c = search (span_short, rules)

pub returns-then-n-lt2 : goal.returns-then-n-lt2
returns-then-n-lt2 c = search (span_small, rules)

pub overflow_add-at-3 : goal.overflow_add-at-3
overflow_add-at-3 c = omega (arith, c.word-n.ensures, c.shared_slice_known-1.given c.args.at, c.shared_slice_known-1.given (c.args.at + 1))

pub returns-then-s-at-3 : goal.returns-then-s-at-3
returns-then-s-at-3 c = search (span_long, rules)

pub returns-then-kind-low : goal.returns-then-kind-low
returns-then-kind-low c = search (span_below, rules)

pub returns-then-high-kind : goal.returns-then-high-kind
returns-then-high-kind c = search (span_above, rules)

pub returns : goal.returns
returns c = search (span_from, rules)
