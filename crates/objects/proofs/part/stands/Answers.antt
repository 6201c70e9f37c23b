use Rattle.std.specs.Prelude.{◌≡◌}
use Rattle.std.proofs.Common.{sym, ap, ◌∙◌}
use Rattle.elements.specs.declared.answer.Header.{Header}
use Rattle.rules.specs.Parts.{component}
use Rattle.elements.specs.AnswerLaws.{leaves}
use Rattle.elements.specs.HeaderLaws.{header_in}
use Rattle.objects.proofs.Auto.{tests}
use Rattle.objects.proofs.part.stands.Goals as goal

pub returns-then-end-at : goal.returns-then-end-at
unfolding component
returns-then-end-at c = record {
  is = λ b. search (tests, c.lacking.ensures.is b c.args.at);
  inside = λ x e. absurd (c.lacking.ensures.none x e);
}

pub returns-in_err-x : goal.returns-in_err-x
unfolding component
returns-in_err-x c = let z = leaves c.from_residual.ensures in rw z (record {
  is = λ b. search (tests, sym c.in_err-x.ensures);
  inside = λ x e. absurd (cc);
})

pub returns-then-x-tag : goal.returns-then-x-tag
unfolding component
returns-then-x-tag c = record {
  is = λ b. search (tests, sym c.in_ok-x.ensures);
  inside = λ x e.
      let z : c.in_ok-x.x ≡ x = cc in
      let h = rw z at (header_in c.args.s.now c.args.at c.args.end (sym c.in_ok-x.ensures)) in
      (ap (λ (y : Header). y.0) (sym z) ∙ c.if-x-tag.true, h.0, h.1, h.2);
}

pub returns : goal.returns
unfolding component
returns c = record {
  is = λ b. search (tests, sym c.in_ok-x.ensures, c.lacking-2.ensures.is b c.args.at);
  inside = λ x e. absurd (c.lacking-2.ensures.none x e);
}
