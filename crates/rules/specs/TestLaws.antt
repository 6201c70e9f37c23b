-- Tests: what follows of two in one, and of one that holds.
use Rattle.std.specs.Prelude.{ℕ, Bool, true, false, ◌&&◌, ◌≡◌, refl, T}
use Rattle.std.proofs.Common.{sym, subst, arith}

pub and_left : (a b : Bool) → T (a && b) → T a
and_left true b t = tt
and_left false b t = t

pub and_right : (a b : Bool) → T (a && b) → T b
and_right true b t = t
and_right false b t = absurd t

pub is_true : (b : Bool) → T b → b ≡ true
is_true true h = refl
is_true false h = absurd h

pub from_true : (b : Bool) → b ≡ true → T b
from_true b e = subst T (sym e) tt

pub clash : (b : Bool) → b ≡ true → b ≡ false → ⊥
clash true p q = let z : ◌≡◌ {A = ℕ} 0 1 = cc in omega arith
clash false p q = let z : ◌≡◌ {A = ℕ} 0 1 = cc in omega arith
