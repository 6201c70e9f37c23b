use borrow.Author.Rules.{rules}
use Rattle.objects.specs.DidLaws.{did_then}
use Rattle.objects.proofs.class.sequence.Goals as goal

pub returns : goal.returns
returns c = search (did_then, rules)
