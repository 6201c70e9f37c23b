-- A loop of the code follows `loop` of specs/: what is left to do at x comes to v.
use Prim.Native.Nat.{ℕ, zero, suc, ◌<◌}
use mathlib.Core.Path.{◌≡◌, refl}
use native.Mathlib.Omega.{arith}
use Rattle.elements.specs.Loop.{Turn, next, done, loop}

-- from x on, with more turns left than the measure m, the loop comes to v
pub record Left {S A : Type 0} (f : S → Turn S A) (d : A) (m : ℕ) (x : S) (v : A) : Type 0 where
  pub turns : ℕ
  pub enough : m < turns
  pub comes : loop f d turns x ≡ v

pub left_start : {S A : Type 0} (f : S → Turn S A) (d : A) (m : ℕ) (x : S) → Left f d m x (loop f d (suc m) x)
left_start f d m x = record { turns = suc m; enough = omega arith; comes = refl }

pub left_next : {S A : Type 0} {f : S → Turn S A} {d : A} {x y : S} {v : A} {m n : ℕ} → Left f d m x v → f x ≡ next y → n < m → Left f d n y v
unfolding loop
left_next {f = f} {d = d} {x = x} {y = y} {v = v} {m = m} {n = n} h e l = go h.turns h.enough h.comes
  where
    go : (k : ℕ) → m < k → loop f d k x ≡ v → Left f d n y v
    go zero p q = absurd (omega arith)
    go (suc k) p q = record { turns = k; enough = omega arith; comes = rw (e, loop) at q }

pub left_done : {S A : Type 0} {f : S → Turn S A} {d : A} {x : S} {v a : A} {m : ℕ} → Left f d m x v → f x ≡ done a → a ≡ v
unfolding loop
left_done {f = f} {d = d} {x = x} {v = v} {a = a} {m = m} h e = go h.turns h.enough h.comes
  where
    go : (k : ℕ) → m < k → loop f d k x ≡ v → a ≡ v
    go zero p q = absurd (omega arith)
    go (suc k) p q = rw (e, loop) at q
