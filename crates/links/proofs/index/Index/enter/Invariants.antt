use mathlib.Core.Path.{◌≡◌}
use Rattle.links.proofs.IndexLaws.{Entering}
use Rattle.links.proofs.index.Index.enter.Given as goal

abbrev pub invariant-loop-n : goal.invariant-loop-n
invariant-loop-n l = (l.self.firsts ≡ l.initial.self.firsts) × Entering l.b l.self l.n l.i
