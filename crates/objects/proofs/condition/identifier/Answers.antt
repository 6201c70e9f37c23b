use borrow.Author.Rules.{rules}
use Rattle.rules.specs.Rulings.{identified}
use Rattle.objects.specs.DidLaws.{did_fell, did_one}
use Rattle.objects.proofs.Auto.{tests}
use Rattle.objects.proofs.condition.identifier.Goals as goal

pub returns-then-x-le255 : goal.returns-then-x-le255
unfolding identified
returns-then-x-le255 c = search (tests, did_one, rules)

pub returns : goal.returns
unfolding identified
returns c = search (tests, did_fell, rules)
