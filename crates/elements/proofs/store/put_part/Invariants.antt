use Rattle.elements.proofs.PartLaws.{Partly}
use Rattle.elements.proofs.store.put_part.Given as goal

abbrev pub invariant-loop-i : goal.invariant-loop-i
invariant-loop-i l = Partly l.initial.out l.out l.s l.o l.a l.i l.n
