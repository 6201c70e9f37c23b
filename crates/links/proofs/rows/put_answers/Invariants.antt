use Prim.Native.Nat.{◌-◌}
use Rattle.std.specs.Option.{unwrap_or}
use Rattle.links.specs.Numbers.{number_of}
use Rattle.links.proofs.RowLaws.{Answering}
use Rattle.links.proofs.rows.put_answers.Given as goal

abbrev pub invariant-loop-next : goal.invariant-loop-next
invariant-loop-next l = Answering l.b l.s.at l.s.end (number_of l.s.link) l.s.object l.index.n l.w l.initial.rows l.rows l.o l.next l.q

abbrev pub decreases-loop-next : goal.decreases-loop-next
decreases-loop-next l = l.index.n - unwrap_or l.next l.index.n
