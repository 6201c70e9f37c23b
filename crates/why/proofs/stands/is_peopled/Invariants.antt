use Rattle.links.specs.Numbers.{number_of}
use Rattle.why.proofs.StandsLaws.{Peopling}
use Rattle.why.proofs.stands.is_peopled.Given as goal

abbrev pub invariant-loop-x : goal.invariant-loop-x
invariant-loop-x l = Peopling (number_of l.link) l.entries l.x-index
