use mathlib.Core.Path.{◌≡◌}
use mathlib.Core.List.{List, ◌++◌}
use Prim.Native.Nat.{ℕ, ◌+◌, ◌-◌, ◌≤◌}
use Rattle.elements.specs.Bits.{flag_run}
use Rattle.elements.specs.Put.{Put}
use Rattle.elements.proofs.bits.put_run.Given as goal

-- of w's k bytes all but the last few are put, and those are v's
pub record Run (a b : List ℕ) (o p k w left v : ℕ) : Type 0 where
  pub few : k ≤ 4
  pub rest : left ≤ k
  pub at : p ≡ o + (k - left)
  pub done : List ℕ
  pub put : Put a b o p done
  pub all : done ++ flag_run left v ≡ flag_run k w

abbrev pub invariant-loop-turn : goal.invariant-loop-turn
invariant-loop-turn l = Run l.initial.out l.out l.o l.p l.k l.w (l.k - l._turn) l.v
