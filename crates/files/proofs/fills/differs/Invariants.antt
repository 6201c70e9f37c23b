use Rattle.files.proofs.FillLaws.{Same}
use Rattle.files.proofs.fills.differs.Given as goal

abbrev pub invariant-loop-i : goal.invariant-loop-i
invariant-loop-i l = Same l.s l.b l.end l.at l.i
