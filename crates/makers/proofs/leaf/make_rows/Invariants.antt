use Rattle.rules.specs.Tables.{rows_of}
use Rattle.makers.proofs.LeafLaws.{Along}
use Rattle.makers.proofs.leaf.make_rows.Given as goal

abbrev pub invariant-loop-k : goal.invariant-loop-k
invariant-loop-k l = Along l.b (rows_of l.q) l.initial.out l.out l.fn.made.next l.fn.made.end l.k l.done
