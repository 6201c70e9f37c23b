use Prim.Native.Nat.{◌-◌}
use Rattle.writer.proofs.RenderLaws.{Filing}
use Rattle.writer.proofs.render.make_files.Given as goal

abbrev pub invariant-loop-k : goal.invariant-loop-k
invariant-loop-k l = Filing l.b l.initial.out l.out l.j l.end l.fn.made.next l.fn.made.end l.k l.done

abbrev pub decreases-loop-k : goal.decreases-loop-k
decreases-loop-k l = l.end - l.k
