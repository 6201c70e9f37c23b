use native.Mathlib.Omega.{arith}
use borrow.Author.Rules.{rules}
use Rattle.reader.proofs.FrameLaws.{fitting_none, fitting_short, fitting_cut, fitting_sum, fitting_next, fitting_less, fitting_all}
use Rattle.reader.proofs.frame.records_fit.Goals as goal

pub loop-i-init : goal.loop-i-init
loop-i-init c = fitting_none _ _ (λ i. omega (arith, c.shared_slice_known-1.given i)) (search rules) (search rules) (search rules)

pub overflow_add-i : goal.overflow_add-i
overflow_add-i c = search (fitting_short, rules)

pub returns-then-stop-i : goal.returns-then-stop-i
returns-then-stop-i c = search (fitting_cut, rules)

pub overflow_add-i-in-loop-i : goal.overflow_add-i-in-loop-i
overflow_add-i-in-loop-i c = search (fitting_short, rules)

pub overflow_add-i-in-loop-i-2 : goal.overflow_add-i-in-loop-i-2
overflow_add-i-in-loop-i-2 c = search (fitting_sum, rules)

pub loop-i-smaller : goal.loop-i-smaller
loop-i-smaller c = search (fitting_less, rules)

pub loop-i-preserved : goal.loop-i-preserved
loop-i-preserved c = search (fitting_next, rules)

pub returns : goal.returns
returns c = search (fitting_all, rules)
