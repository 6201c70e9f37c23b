use native.Mathlib.Omega.{arith}
use mathlib.Core.Path.{◌≡◌}
use mathlib.Core.List.{List}
use mathlib.Core.Bool.{Bool, true, false}
use Prim.Native.Nat.{ℕ, zero, suc, ◌+◌, ◌-◌, ◌^◌, ◌<◌, ◌≤◌}
use Rattle.elements.specs.Integer.{signed, spread, integer_bytes}
use Rattle.elements.specs.SpreadLaws.{spread_length}
use Rattle.elements.specs.Put.{Put}
use Rattle.elements.proofs.integer.put_integer.Goals as goal

-- 32 bits take at most five bytes
five : {a b : List ℕ} {o p : ℕ} (n : Bool) (w : ℕ) → Put a b o p (spread n w) → w < 2 ^ 32 → p ≤ o + 5
five n w f h = omega (arith, f.at, spread_length 4 n w (omega arith))

abbrev Done : List ℕ → List ℕ → ℕ → ℕ → Bool → ℕ → Type 0
Done a b o p n m = (p ≤ o + 5) × Put a b o p (integer_bytes (signed n m))

minus : {a b : List ℕ} {o p : ℕ} {n : Bool} (m : ℕ) → m < 2 ^ 32 → n ≡ true → 0 < m → Put a b o p (spread true (m - 1)) → Done a b o p n m
unfolding integer_bytes
minus zero h e l f = absurd (omega arith)
minus (suc m) h e l f = let z : suc m - 1 ≡ m = omega arith in (five true (suc m - 1) f (omega arith), rw e (rw z at f))

-- there is no minus zero
nought : {a b : List ℕ} {o p : ℕ} (n : Bool) (m : ℕ) → m ≤ 0 → Put a b o p (spread false 0) → Done a b o p n m
unfolding integer_bytes
nought true zero h f = (five false 0 f (omega arith), f)
nought false zero h f = (five false 0 f (omega arith), f)
nought n (suc m) h f = absurd (omega arith)

plus : {a b : List ℕ} {o p : ℕ} {n : Bool} (m : ℕ) → m < 2 ^ 32 → n ≡ false → Put a b o p (spread false m) → Done a b o p n m
unfolding integer_bytes
plus m h e f = (five false m f h, rw e f)

pub returns-then-m-gt0 : goal.returns-then-m-gt0
returns-then-m-gt0 c = minus c.args.m (omega arith) c.if-negative.true (omega arith) c.put_spread.ensures

pub returns-then-negative : goal.returns-then-negative
returns-then-negative c = nought c.args.negative c.args.m (omega arith) c.put_spread-then-negative.ensures

pub returns : goal.returns
returns c = plus c.args.m (omega arith) c.if-negative.false c.put_spread-2.ensures
