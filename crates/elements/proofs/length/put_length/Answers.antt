use mathlib.Core.Path.{◌≡◌}
use mathlib.Core.List.{[], ◌∷◌}
use Prim.Native.Nat.{ℕ, ◌/◌, ◌%◌, ◌≤◌}
use native.Mathlib.Omega.{arith}
use borrow.Author.Rules.{rules}
use borrow.Author.Tests.{le-ltb}
use Rattle.elements.specs.Length.{shortest}
use Rattle.elements.specs.PutLaws.{put_as, put_then, put_then3}
use Rattle.elements.proofs.Auto.{tests}
use Rattle.elements.proofs.length.put_length.Goals as goal

long : (n : ℕ) → 256 ≤ n → 130 ∷ n / 256 % 256 ∷ n % 256 ∷ [] ≡ shortest n
unfolding shortest
long n h = rw (le-ltb n 128 (omega arith), le-ltb n 256 h)

pub returns-then-n-lt128 : goal.returns-then-n-lt128
unfolding shortest
returns-then-n-lt128 c = (omega arith, search (put_as, tests, rules))

pub returns-then-n-lt256 : goal.returns-then-n-lt256
unfolding shortest
returns-then-n-lt256 c = (omega arith, search (put_then, tests, rules))

pub returns : goal.returns
returns c = (omega arith, search (put_then3, long, rules))
