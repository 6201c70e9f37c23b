-- "The answer says which templates are ours: those whose 4F begins with E8 28 BD 08 0F": in an accepted book 0201 is 01 exactly when the 0202 behind it begins so.
use Rattle.std.specs.Prelude.{ℕ, ◌≡◌, List, [], ◌∷◌, ◌↔◌}
use Rattle.rules.specs.Reading.{Rec, rec}

-- "E8 28 BD 08 0F", and whatever comes behind
abbrev pub Begins : List ℕ → Type 0
Begins aid = (more : List ℕ) × (aid ≡ 0xe8 ∷ 0x28 ∷ 0xbd ∷ 0x08 ∷ 0x0f ∷ more)

-- a 0201 with payload p, and the records behind it
pub record FlagTold (p : List ℕ) (after : List Rec) : Type 0 where
  pub aid : List ℕ
  pub more : List Rec
  pub next : after ≡ rec 0x0202 aid ∷ more
  pub is_ours : (p ≡ 1 ∷ []) ↔ Begins aid
  pub is_not_lem : (p ≡ 0 ∷ []) ↔ (Begins aid → ⊥)
