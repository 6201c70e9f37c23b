use borrow.Author.Rules.{rules}
use Rattle.objects.specs.DidLaws.{did_left, element_fails, element_here, head_element}
use Rattle.objects.proofs.class.any_sealed.Goals as goal

pub returns-in_err-x : goal.returns-in_err-x
returns-in_err-x c = search (did_left, element_fails, rules)

pub sealed-requires : goal.sealed-requires
sealed-requires c = head_element _ _ _ c.in_ok-x.ensures c.requires

pub returns : goal.returns
returns c = search (element_here, rules)
