use Rattle.std.specs.Prelude.{length}
use Rattle.rules.specs.Tables.{rows_of}
use Rattle.rules.proofs.KeptLaws.{Keeping}
use Rattle.rules.proofs.kept.put_rows.Given as goal

abbrev pub invariant-loop-k : goal.invariant-loop-k
invariant-loop-k l = Keeping l.q l.initial.tags l.tags l.o (length (rows_of l.q)) l.k l.n
