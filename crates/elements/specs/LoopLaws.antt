-- A loop comes to what its turns allow.
use Rattle.std.specs.Prelude.{ℕ, zero, suc, ◌<◌, ◌≡◌, refl}
use Rattle.std.proofs.Common.{arith}
use Rattle.elements.specs.Loop.{Turn, next, done, loop}

-- a turn at x: it goes on to a y of lower measure, from which a right answer is right from x too; or its answer is right
pub data Step {S A : Type 0} (I : S → Type 0) (m : S → ℕ) (R : S → A → Type 0) (x : S) : Turn S A → Type 0 where
  goes : (y : S) → I y → m y < m x → ((v : A) → R y v → R x v) → Step I m R x (next y)
  stops : (a : A) → R x a → Step I m R x (done a)

-- where every turn is such a step, the loop's answer is right
pub loop_right : {S A : Type 0} (I : S → Type 0) (m : S → ℕ) (R : S → A → Type 0) (f : S → Turn S A) (d : A) →
    ((x : S) → I x → Step I m R x (f x)) → (k : ℕ) (x : S) → I x → m x < k → R x (loop f d k x)
unfolding loop
loop_right I m R f d step zero x i h = absurd (omega arith)
loop_right {S} {A} I m R f d step (suc k) x i h = go (loop_right I m R f d step k) (f x) refl (step x i)
  where
    go : ((y : S) → I y → m y < k → R y (loop f d k y)) → (t : Turn S A) → f x ≡ t → Step I m R x t → R x (loop f d (suc k) x)
    go ih (next y) e (goes _ j l back) = rw (e, loop) (back (loop f d k y) (ih y j (omega arith)))
    go ih (done a) e (stops _ r) = rw (e, loop) r

-- a loop that is done with d comes to d, in however many turns
pub same_done : {S A : Type 0} (f : S → Turn S A) (d : A) (x : S) → f x ≡ done d → (k : ℕ) → loop f d k x ≡ d
unfolding loop
same_done f d x e zero = refl
same_done f d x e (suc k) = rw (e, loop) refl

-- and so does a loop that goes on to where it comes to d
pub same_next : {S A : Type 0} (f : S → Turn S A) (d : A) (x : S) {y : S} → f x ≡ next y → ((k : ℕ) → loop f d k y ≡ d) → (k : ℕ) → loop f d k x ≡ d
unfolding loop
same_next f d x e h zero = refl
same_next f d x e h (suc k) = rw (e, loop) (h k)
