use Prim.Native.Nat.{◌-◌}
use Rattle.elements.specs.Header.{further}
use Rattle.elements.proofs.FurtherLaws.{Further}
use Rattle.elements.proofs.headers.further.Given as goal

abbrev pub invariant-loop-turn : goal.invariant-loop-turn
invariant-loop-turn l = Further l.s l.at l.end l.b l.p (3 - l._turn) (further 3 l.s l.at l.end l.b l.from)
