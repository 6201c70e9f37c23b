-- What is told of a number: itself, where 32 bits hold its magnitude.
use Rattle.std.specs.Prelude.{ℕ, suc, ◌^◌, ◌<◌, ◌≡◌, refl, Bool, ℤ, pos, negsuc, ltb}
use Rattle.std.proofs.Common.{sym, arith, ltb-false}
use Rattle.elements.specs.ChoiceLaws.{by_pick}
use Rattle.elements.specs.Integer.{most, least, signed}
use Rattle.elements.specs.Encodings.{ToldAs}

pub least_is : (m : ℕ) → m < 2 ^ 32 → least m most ≡ m
least_is m h = by_pick (λ v. v ≡ m) (ltb m most) (λ _. refl) (λ e. omega (arith, ltb-false m most e))

-- a magnitude that is not the largest is the number's own
own : (m size : ℕ) → m ≡ least size most → m < most → size ≡ m
own m size e h = by_pick (λ v. m ≡ v → size ≡ m) (ltb size most) (λ _ q. sym q) (λ _ q. absurd (omega arith)) e

pub told_exact : (z : ℤ) {n : Bool} {m : ℕ} → ToldAs z n m → m < most → z ≡ signed n m
told_exact (pos k) {m = m} t h = rw (t.0, own m k t.1 h) refl
told_exact (negsuc k) {m = m} t h = rw (t.0, ← own m (suc k) t.1 h) refl
