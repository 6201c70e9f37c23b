use Prim.Native.Nat.{◌-◌, ◌≤◌}
use mathlib.Core.Path.{◌≡◌}
use lib.ListN.{drop}
use Rattle.elements.specs.Time.{digits}
use Rattle.elements.proofs.time.digits.Given as goal

abbrev pub invariant-loop-i : goal.invariant-loop-i
invariant-loop-i l = (l.i ≤ l.n) × (digits (l.n - l.i) (drop l.i l.c) ≡ digits l.n l.c)
