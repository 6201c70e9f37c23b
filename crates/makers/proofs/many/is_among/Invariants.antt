use Rattle.std.specs.Prelude.{◌≡◌}
use lib.ListN.{drop}
use Rattle.rules.specs.Book.{records_from}
use Rattle.makers.specs.Making.{next_among}
use Rattle.makers.proofs.many.is_among.Given as goal

abbrev pub invariant-loop-kind : goal.invariant-loop-kind
invariant-loop-kind l = next_among l.kinds (records_from l.b l.i) ≡ next_among (drop l.kind-index l.kinds) (records_from l.b l.i)
