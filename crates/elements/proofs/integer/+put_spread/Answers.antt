use borrow.Author.Rules.{rules}
use native.Mathlib.Omega.{arith}
use mathlib.Core.Path.{◌≡◌}
use mathlib.Core.List.{List, [], ◌∷◌}
use mathlib.Core.Bool.{Bool}
use Prim.Native.Nat.{ℕ, ◌/◌, ◌%◌, ◌-◌, ◌^◌, ◌≤◌, ◌<◌}
use Rattle.elements.specs.Integer.{digit, spread}
use Rattle.elements.specs.SpreadLaws.{spread_small, spread_more, spread_length}
use Rattle.elements.specs.Put.{Put}
use Rattle.elements.specs.PutLaws.{put_put}
use Rattle.elements.proofs.integer.+put_spread.Goals as goal

one : {a b : List ℕ} {o p : ℕ} (d : ℕ) (n : Bool) (w : ℕ) → w < 128 → d ≡ digit n w → Put a b o p (d ∷ []) → Put a b o p (spread n w)
one d n w h e f = rw (spread_small n w h, ← e) f

another : {a b c : List ℕ} {o p q : ℕ} (d : ℕ) (n : Bool) (w : ℕ) → 128 ≤ w → Put a b o p (spread n (w / 256)) → d ≡ digit n (w % 256) → Put b c p q (d ∷ []) → Put a c o q (spread n w)
another d n w h f e g = rw (spread_more n w h, ← e) (put_put f g)

room : {a b : List ℕ} {o p : ℕ} (n : Bool) (w : ℕ) → w < 2 ^ 32 → o < 2 ^ 62 → Put a b o p (spread n (w / 256)) → p < 2 ^ 64 - 1
room n w h k f = omega (arith, f.at, spread_length 4 n (w / 256) (omega arith))

pub returns-then-w-lt128 : goal.returns-then-w-lt128
returns-then-w-lt128 t c = search (one, rules)

pub put-requires-2 : goal.put-requires-2
put-requires-2 t c = search (room, rules)

pub returns : goal.returns
returns t c = search (another, rules)
