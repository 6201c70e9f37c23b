use mathlib.Core.Path.{◌≡◌}
use mathlib.Core.List.{List}
use Prim.Native.Nat.{ℕ, ◌≤◌, ◌<◌}
use lib.ListN.{length, drop}
use Rattle.elements.specs.Bits.{weigh}
use Rattle.elements.proofs.bits.weigh.Given as goal

-- v is what the bytes from i on weigh
pub record Weighed (c : List ℕ) (v i : ℕ) : Type 0 where
  pub low : 0 < i
  pub high : i ≤ length c
  pub few : length c ≤ 5
  pub sum : v ≡ weigh (drop i c)

abbrev pub invariant-loop-i : goal.invariant-loop-i
invariant-loop-i l = Weighed l.c l.v l.i
