use Rattle.std.specs.Prelude.{◌≡◌}
use lib.ListN.{drop}
use Rattle.elements.specs.Sealed.{among}
use Rattle.elements.proofs.seals.among.Given as goal

abbrev pub invariant-loop-y : goal.invariant-loop-y
invariant-loop-y l = among l.x l.bytes ≡ among l.x (drop l.y-index l.bytes)
