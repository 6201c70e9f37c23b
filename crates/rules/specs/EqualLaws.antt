-- Bytes that are compared whole.
use Rattle.std.specs.Prelude.{ℕ, List, [], ◌∷◌, true, false, ◌&&◌, ◌≡◌, refl, eqb}
use Rattle.std.proofs.Common.{eqb→eq, eq-eqb}
use Rattle.rules.specs.TestLaws.{and_left, and_right, is_true, from_true}
use Rattle.rules.specs.Files.{equal}

pub equal_is : (x y : List ℕ) → equal x y ≡ true → x ≡ y
equal_is [] [] e = refl
equal_is [] (y ∷ m) e = absurd (from_true false e)
equal_is (x ∷ l) [] e = absurd (from_true false e)
equal_is (x ∷ l) (y ∷ m) e =
    let t = from_true (eqb x y && equal l m) e in
    let a : x ≡ y = eqb→eq x y (and_left (eqb x y) (equal l m) t) in
    let b : l ≡ m = equal_is l m (is_true (equal l m) (and_right (eqb x y) (equal l m) t)) in
    rw (a, b) refl

pub equal_self : (l : List ℕ) → equal l l ≡ true
equal_self [] = refl
equal_self (x ∷ l) = rw (eq-eqb x x refl) (equal_self l)
