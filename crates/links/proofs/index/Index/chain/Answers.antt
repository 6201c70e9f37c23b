use native.Mathlib.Omega.{arith}
use Rattle.links.proofs.ChainLaws.{chaining_same, chaining_more}
use Rattle.links.proofs.index.Index.chain.Goals as goal

pub loop-j-preserved-in_default : goal.loop-j-preserved-in_default
loop-j-preserved-in_default c = chaining_same c.loop-j.invariant (omega arith) (omega arith) c.in_default.is

pub loop-j-preserved : goal.loop-j-preserved
loop-j-preserved c = chaining_more c.loop-j.invariant (omega arith) (omega arith) c.in-Some.is c.record_end.ensures c.key-h.ensures (omega arith)
