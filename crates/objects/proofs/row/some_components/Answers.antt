use native.Mathlib.Omega.{arith}
use borrow.Author.Rules.{rules}
use Rattle.objects.specs.DidLaws.{did_left}
use Rattle.objects.specs.ComponentsLaws.{along_none, along_fails, along_next, along_all}
use Rattle.objects.proofs.row.some_components.Goals as goal

pub loop-k-init : goal.loop-k-init
loop-k-init c = search (along_none, rules)

pub returns-in_err-n : goal.returns-in_err-n
returns-in_err-n c = did_left c.from_residual.ensures (along_fails c.loop-k.invariant (omega arith) c.row_of.ensures c.in_err-n.ensures)

pub loop-k-preserved : goal.loop-k-preserved
loop-k-preserved c = along_next c.loop-k.invariant (omega arith) c.row_of.ensures c.in_ok-n.ensures

pub returns : goal.returns
returns c = search (along_all, rules)
