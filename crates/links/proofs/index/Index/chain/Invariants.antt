use Rattle.links.proofs.ChainLaws.{Chaining}
use Rattle.links.proofs.index.Index.chain.Given as goal

abbrev pub invariant-loop-j : goal.invariant-loop-j
invariant-loop-j l = Chaining l.b l.fn.self.n l.self l.j
