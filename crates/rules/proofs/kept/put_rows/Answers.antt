use Rattle.rules.proofs.KeptLaws.{keeping_start, keeping_inside, keeping_low, keeping_next, keeping_all}
use borrow.Author.Rules.{rules}
use native.Mathlib.Omega.{arith}
use Rattle.rules.proofs.kept.put_rows.Goals as goal

pub loop-k-init : goal.loop-k-init
loop-k-init c = search (keeping_start, rules)

pub row_of-row-requires : goal.row_of-row-requires
row_of-row-requires c = search (keeping_inside, rules)

pub put_unless_required-n-requires : goal.put_unless_required-n-requires
put_unless_required-n-requires c = search (keeping_low, rules)

pub loop-k-preserved : goal.loop-k-preserved
loop-k-preserved c = keeping_next c.loop-k.invariant (omega (arith, c.count_of-k-end.ensures)) c.row_of-row.ensures c.put_unless_required-n.ensures

pub returns : goal.returns
returns c = search (keeping_all, rules)
