use Rattle.links.proofs.ListLaws.{Linking}
use Rattle.links.proofs.rows.put_links.Given as goal

abbrev pub invariant-loop-k : goal.invariant-loop-k
invariant-loop-k l = Linking l.b l.index.n l.w l.initial.rows l.rows l.i l.q l.k
