use Rattle.makers.proofs.LeafLaws.{along_start, along_next, along_long, along_all}
use Rattle.makers.specs.MadeLaws.{made_left_by}
use borrow.Author.Rules.{rules}
use Rattle.makers.proofs.leaf.make_rows.Goals as goal

pub loop-k-init : goal.loop-k-init
loop-k-init c = search (along_start, rules)

pub loop-k-preserved : goal.loop-k-preserved
loop-k-preserved c = along_next c.loop-k.invariant (search rules) c.row_of.ensures c.in_ok-done.ensures

pub returns-in_err-done : goal.returns-in_err-done
returns-in_err-done c = made_left_by (along_long c.loop-k.invariant (search rules) c.row_of.ensures c.in_err-done.ensures) c.from_residual.ensures

pub returns : goal.returns
returns c = search (along_all, rules)
