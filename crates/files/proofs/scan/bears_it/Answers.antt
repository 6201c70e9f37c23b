use native.Mathlib.Omega.{arith}
use mathlib.Core.Path.{refl}
use Rattle.files.proofs.ScanLaws.{key_spans, key_same, key_none}
use Rattle.files.proofs.scan.bears_it.Goals as goal

pub overflow_add-k : goal.overflow_add-k
overflow_add-k c = let w = key_spans _ _ _ c.is_bearing.ensures c.if-is_bearing.true c.requires.0 c.skipped.ensures refl in omega (arith, w.low, w.high)

pub same_bytes-requires : goal.same_bytes-requires
same_bytes-requires c = let w = key_spans _ _ _ c.is_bearing.ensures c.if-is_bearing.true c.requires.0 c.skipped.ensures c.after.ensures in omega (arith, w.low, w.high)

pub returns-then-is_bearing : goal.returns-then-is_bearing
returns-then-is_bearing c = search key_same

pub returns : goal.returns
returns c = search key_none
