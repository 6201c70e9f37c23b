use Rattle.std.proofs.Common.{◌≡◌, length}
use Rattle.cases.proofs.hex.decode.Given as goal

abbrev pub invariant-loop-c : goal.invariant-loop-c
invariant-loop-c l = length l.bytes.lent.now ≡ length l.initial.bytes.lent.now

abbrev pub decreases-loop-c : goal.decreases-loop-c
decreases-loop-c l = length l.text.0.now
