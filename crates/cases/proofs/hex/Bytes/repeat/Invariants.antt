use Rattle.std.proofs.Common.{◌≤◌, ◌≡◌, length}
use Rattle.cases.proofs.hex.Bytes.repeat.Given as goal

abbrev pub invariant-loop-turn : goal.invariant-loop-turn
invariant-loop-turn l = (l.to ≤ l.self.count) × (length l.self.lent.now ≡ length l.initial.self.lent.now)

abbrev pub invariant-loop-i : goal.invariant-loop-i
invariant-loop-i l = (l.to ≤ l.self.count) × (length l.self.lent.now ≡ length l.initial.self.lent.now)
