-- The library compares bytes as the definition does.
use Rattle.std.specs.Prelude.{ℕ, List, [], ◌∷◌, ◌&&◌, ◌≡◌, refl, eqb}
use Rattle.std.proofs.Common.{ap}
use Rattle.std.specs.Cmp.Lexicographic.{pointwise}
use Rattle.rules.specs.Files.{equal}

pub compared : (l m : List ℕ) → pointwise eqb l m ≡ equal l m
compared [] [] = refl
compared [] (y ∷ m) = refl
compared (x ∷ l) [] = refl
compared (x ∷ l) (y ∷ m) = ap (λ b. eqb x y && b) (compared l m)
