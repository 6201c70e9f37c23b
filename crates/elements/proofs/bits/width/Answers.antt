use mathlib.Core.Path.{refl}
use native.Mathlib.Omega.{arith}
use lib.Count.{leading_le}
use Rattle.elements.specs.Bits.{width}
use Rattle.elements.proofs.bits.width.Goals as goal

pub overflow_sub-result : goal.overflow_sub-result
overflow_sub-result c = omega (arith, leading_le 32 c.args.w)

pub returns : goal.returns
unfolding width
returns c = (refl, omega arith)
