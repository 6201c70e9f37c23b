use Prim.Native.Nat.{◌-◌}
use lib.ListN.{length}
use Rattle.links.proofs.FieldLaws.{Numbering}
use Rattle.links.proofs.fields.sought.Given as goal

abbrev pub invariant-loop-j : goal.invariant-loop-j
invariant-loop-j l = Numbering l.b l.object l.i l.left

abbrev pub decreases-loop-j : goal.decreases-loop-j
decreases-loop-j l = length l.b - l.i
