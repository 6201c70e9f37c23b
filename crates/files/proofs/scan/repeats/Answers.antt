use native.Mathlib.Omega.{arith}
use borrow.Author.Rules.{rules}
use mathlib.Core.Path.{refl}
use Rattle.files.proofs.ScanLaws.{key_spans, repeat_told, repeat_none}
use Rattle.files.proofs.scan.repeats.Goals as goal

pub overflow_add-j : goal.overflow_add-j
overflow_add-j c = let w = key_spans _ _ _ c.is_bearing.ensures c.if-is_bearing.true c.requires.1 c.skipped.ensures refl in omega (arith, w.low, w.high)

pub met_before-requires : goal.met_before-requires
met_before-requires c = search (key_spans, rules)

pub returns-then-is_bearing : goal.returns-then-is_bearing
returns-then-is_bearing c = search repeat_told

pub returns : goal.returns
returns c = search repeat_none
