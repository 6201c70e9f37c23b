use Rattle.std.specs.Prelude.{Ok, Err}
use Prim.Native.Nat.{ℕ, ◌≤◌}
use mathlib.Core.Path.{◌≡◌, sym, ◌∙◌}
use mathlib.Core.List.{List}
use native.Mathlib.Omega.{arith}
use lib.Seq.{slice}
use Rattle.elements.specs.AnswerLaws.{leaves}
use Rattle.elements.specs.declared.fault.Fault.TheVariants.{NotDue}
use Rattle.elements.specs.declared.answer.Form.{Form}
use Rattle.elements.specs.declared.answer.Header.{Header}
use Rattle.elements.specs.declared.answer.Refusal.{Refusal}
use Rattle.elements.specs.Header.{header}
use Rattle.elements.specs.HeaderLaws.{header_in}
use Rattle.elements.specs.Values.{value, placed, element}
use Rattle.elements.proofs.Auto.{tests}
use Rattle.elements.proofs.value.element.Goals as goal
use Rattle.elements.specs.Answer.{Read, refused}

module _ (f : Form) (tag : ℕ) (s : List ℕ) (at end : ℕ) where
  no_element : {e : Refusal} → Err e ≡ header s at end → Err e ≡ element f tag s at end
  unfolding element
  no_element k = rw (sym k)

  module _ {h : Header} (k : Ok h ≡ header s at end) where
    other : (h.0 ≡ tag → ⊥) → refused NotDue at ≡ element f tag s at end
    unfolding element
    other n = search (tests, sym k)

    due : {r : Read} → h.0 ≡ tag → r ≡ placed at h.2 (value f (slice h.1 h.2 s)) → r ≡ element f tag s at end
    unfolding element
    due n v = v ∙ search (tests, sym k)

inside : (s : List ℕ) (at end n : ℕ) {h : Header} → end ≤ n → Ok h ≡ header s at end → (h.1 ≤ h.2) × (h.2 ≤ n)
inside s at end n l k = let i = header_in s at end (sym k) in (i.1, omega arith)

pub value_at-requires : goal.value_at-requires
value_at-requires c = inside _ _ _ _ c.requires c.in_ok-b.ensures

pub returns-then-b-tag : goal.returns-then-b-tag
returns-then-b-tag c = due _ _ _ _ _ c.in_ok-b.ensures c.if-b-tag.true c.value_at.ensures

pub returns-in_err-b : goal.returns-in_err-b
returns-in_err-b c = leaves c.from_residual.ensures ∙ no_element _ _ _ _ _ c.in_err-b.ensures

pub returns : goal.returns
returns c = other _ _ _ _ _ c.in_ok-b.ensures c.if-b-tag.false
