use Rattle.std.proofs.Common.{refl}
use borrow.Author.Rules.{rules}
use Rattle.rules.specs.Layouts as layouts
use Rattle.objects.proofs.Auto.{tests}
use Rattle.objects.specs.DidLaws.{did_left, element_fails, element_here, head_element}
use Rattle.objects.proofs.types.certificate_value.Goals as goal

pub returns-in_err-x : goal.returns-in_err-x
returns-in_err-x c = search (did_left, element_fails, rules)

pub path-requires : goal.path-requires
path-requires c = (refl, head_element _ _ _ c.in_ok-x.ensures c.requires)

pub sealed-requires : goal.sealed-requires
sealed-requires c = head_element _ _ _ c.in_ok-x.ensures c.requires

pub returns-then-x-eq48 : goal.returns-then-x-eq48
unfolding layouts.certificate_value
returns-then-x-eq48 c = element_here _ _ _ _ c.in_ok-x.ensures (search tests)

pub returns : goal.returns
unfolding layouts.certificate_value
returns c = element_here _ _ _ _ c.in_ok-x.ensures (search tests)
