use native.Mathlib.Omega.{arith}
use Rattle.objects.specs.DidLaws.{did_left, head_low, head_room, head_element, element_fails, forward_fails, forward_in}
use Rattle.elements.specs.AnswerLaws.{leaves}
use Rattle.templates.proofs.TemplateLaws.{head_flag, item_template, item_other}
use borrow.Author.Rules.{rules}
use Rattle.templates.proofs.file.item.Goals as goal

pub returns-in_err-x : goal.returns-in_err-x
returns-in_err-x c = (did_left c.from_residual.ensures (element_fails _ _ _ _ c.in_err-x.ensures _ _), rw (leaves c.from_residual.ensures) (forward_fails _ _))

pub template-requires : goal.template-requires
template-requires c = let h = head_element _ _ _ c.in_ok-x.ensures c.requires.1 in (head_flag _ _ _ c.in_ok-x.ensures h.4, (h.1, h.2, h.3, head_room _ _ _ c.in_ok-x.ensures h.4))

pub returns-then-x-eq97 : goal.returns-then-x-eq97
returns-then-x-eq97 c = (item_template _ _ _ c.in_ok-x.ensures (search rules) c.template.ensures, forward_in _ (head_low _ _ _ c.in_ok-x.ensures) c.template.ensures)

pub sealed-requires : goal.sealed-requires
sealed-requires c = head_element _ _ _ c.in_ok-x.ensures c.requires.1

pub returns : goal.returns
returns c = (item_other _ _ _ c.in_ok-x.ensures (λ i. omega (arith, c.shared_slice_known-1.given i)) (search rules) c.requires.0 (search rules) c.sealed.ensures, forward_in _ (head_low _ _ _ c.in_ok-x.ensures) c.sealed.ensures)
