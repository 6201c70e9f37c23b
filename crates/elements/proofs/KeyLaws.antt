-- What a match on several numbers tells.
use Prim.Native.Nat.{ℕ}
use mathlib.Core.Path.{◌≡◌, sym, ◌∙◌, ap}
use mathlib.Core.List.{List, [], ◌∷◌}
use mathlib.Core.Logic.{inl, inr}
use types.Run.{OneOf, hit}
use lib.Dec.{T}
use mir.Val.{has_key}

-- f is v at every key
abbrev pub Alike : (ℕ → ℕ) → ℕ → List ℕ → Type 0
Alike f v [] = Unit {0}
Alike f v (k ∷ ks) = (v ≡ f k) × Alike f v ks

-- so it is v at a number that is one of them
pub alike : (f : ℕ → ℕ) (v : ℕ) (ks : List ℕ) (x : ℕ) → Alike f v ks → OneOf ks x → v ≡ f x
alike f v [] x h o = absurd o
alike f v (k ∷ []) x h o = h.0 ∙ ap f (sym o)
alike f v (k ∷ j ∷ ks) x h (inl e) = h.0 ∙ ap f (sym e)
alike f v (k ∷ j ∷ ks) x h (inr o) = alike f v (j ∷ ks) x h.1 o

-- a number that is none of the keys is not this one
pub not_key : (ks : List ℕ) (k x : ℕ) → T (has_key ks k) → (OneOf ks x → ⊥) → x ≡ k → ⊥
not_key ks k x t h e = h (rw e (hit ks k t))
