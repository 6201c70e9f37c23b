use Rattle.rules.specs.Tables.{rows_of}
use Rattle.objects.specs.ComponentsLaws.{Along}
use Rattle.objects.proofs.row.some_components.Given as goal

abbrev pub invariant-loop-k : goal.invariant-loop-k
invariant-loop-k l = Along l.s (rows_of l.q) l.initial.out l.out l.i l.last l.end l.initial.n.dump l.initial.n.book l.k l.n.dump l.n.book
