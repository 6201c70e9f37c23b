-- What is required is never absent.
use Prim.Native.Nat.{ℕ}
use mathlib.Core.Path.{◌≡◌, refl, ◌∙◌}
use mathlib.Core.List.{List, []}
use lib.Dec.{ltb, eqb}
use Rattle.std.specs.Prelude.{Ok, Err, Option, None}
use Rattle.elements.specs.declared.fault.Fault.{Fault}
use Rattle.elements.specs.declared.fault.Fault.TheVariants.{NotDue, Missing}
use Rattle.elements.specs.declared.answer.Header.{Header}
use Rattle.elements.specs.Answer.{Head}
use Rattle.elements.specs.ChoiceLaws.{by_choose}
use Rattle.elements.specs.Header.{header}
use Rattle.rules.specs.declared.table.Need.{Need}
use Rattle.rules.specs.declared.table.Need.TheVariants.{Required}
use Rattle.rules.specs.Reading.{Rec, took, fails}
use Rattle.rules.specs.Parts.{due, component}
use Rattle.objects.specs.Did.{Dues}

-- what is required is never absent: a body that always fails leaves no way to take nothing
fails_took : (f : Fault) (p : ℕ) (bs : List Rec) (ms : List ℕ) (n : ℕ) → fails f p ≡ took bs ms n → ⊥
fails_took f p bs ms n e = cc

due_never : (tag at : ℕ) (h : Head) → due tag Required (λ at a e. fails NotDue at) at h ≡ took [] [] at → ⊥
due_never tag at (Err r) = fails_took r.0 r.1 [] [] at
due_never tag at (Ok x) = by_choose (λ w. w ≡ took [] [] at → ⊥) (eqb x.0 tag) (λ _ _. fails_took NotDue at [] [] at) (λ _ _. fails_took NotDue at [] [] at)

component_never : (s : List ℕ) (tag end at : ℕ) → component s tag Required (λ at a e. fails NotDue at) end at ≡ took [] [] at → ⊥
unfolding component
component_never s tag end at =
    by_choose (λ w. w ≡ took [] [] at → ⊥) (ltb at end)
    (λ _ _. due_never tag at (header s at end))
    (λ _ _. fails_took Missing end [] [] at)

pub required_stands : {s : List ℕ} {tag : ℕ} {need : Need} {end at : ℕ} {y : Option Header} → Dues s tag need end at (Ok y) → need ≡ Required → y ≡ None → ⊥
required_stands {s} {tag} {need} {end} {at} u n z = component_never s tag end at (rw n at (u.is (λ at a e. fails NotDue at)) ∙ rw z refl)
