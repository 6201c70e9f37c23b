use Prim.Native.Nat.{◌-◌, ◌≤◌}
use mathlib.Core.Path.{◌≡◌}
use lib.ListN.{length, drop}
use Rattle.elements.specs.Text.{due, text_from, text}
use Rattle.elements.proofs.text.utf8_octets.Given as goal

abbrev pub invariant-loop-i : goal.invariant-loop-i
invariant-loop-i l = (l.n ≤ l.i) × (l.i ≤ length l.c) × (text_from (due 0 0 0) l.n (drop l.i l.c) ≡ text l.c)

abbrev pub decreases-loop-i : goal.decreases-loop-i
decreases-loop-i l = length l.c - l.i
