use Prim.Native.Nat.{◌-◌}
use mathlib.Core.Path.{◌≡◌}
use lib.ListN.{length}
use Rattle.files.specs.Scan.{Indexed}
use Rattle.files.proofs.ScanLaws.{Apart}
use Rattle.files.proofs.scan.id_twice_by.Given as goal

abbrev pub invariant-loop-j : goal.invariant-loop-j
invariant-loop-j l = (length l.own ≡ length l.initial.own) × Apart l.b l.marks l.i l.end l.j l.k l.place × Indexed l.b l.own l.i l.j l.c

abbrev pub decreases-loop-j : goal.decreases-loop-j
decreases-loop-j l = l.end - l.j
