use borrow.Author.Rules.{rules}
use Rattle.elements.specs.AnswerLaws.{leaves}
use Rattle.objects.specs.DidLaws.{due_fails, due_absent, due_from, due_tag, due_low, forward_in, forward_fails}
use Rattle.objects.proofs.DueLaws.{required_stands}
use Rattle.objects.proofs.part.due.Goals as goal

pub returns-in_err-stands : goal.returns-in_err-stands
returns-in_err-stands g c = λ b h. rw (leaves c.from_residual.ensures) (due_fails c.in_err-stands.ensures b _ _, λ n. forward_fails _ _)

pub returns-in-None : goal.returns-in-None
returns-in-None g c = λ b h. (search (due_absent c.in_ok-stands.ensures, rules), λ n. absurd (required_stands c.in_ok-stands.ensures n c.in-None.is))

pub returns-in-Some : goal.returns-in-Some
returns-in-Some g c = λ b h.
    let d = h _ _ _ _ (due_tag c.in_ok-stands.ensures c.in-Some.is) c.body.ensures in
    (due_from c.in_ok-stands.ensures c.in-Some.is b d, λ n. forward_in _ (due_low c.in_ok-stands.ensures c.in-Some.is) d)
