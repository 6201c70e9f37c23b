use lib.ListN.{length}
use Rattle.rules.specs.Render.{Renderer}
use Rattle.rules.specs.Book.{records_from}
use Rattle.makers.specs.Making.{MakesEach}
use Rattle.makers.specs.ManyLaws.{Repeating}
use Rattle.makers.proofs.many.make_each.Given as goal

abbrev pub invariant-loop-one : goal.invariant-loop-one
invariant-loop-one g l = (q : Renderer) → MakesEach (goal.F-post g l.one) l.kinds l.b q → Repeating l.b l.kinds q l.fn.out l.out l.fn.made.next l.fn.made.end l.done

abbrev pub decreases-loop-one : goal.decreases-loop-one
decreases-loop-one g l = length (records_from l.b l.done.next)
