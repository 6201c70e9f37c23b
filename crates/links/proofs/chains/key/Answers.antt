use Prim.Native.Nat.{◌-◌}
use native.Mathlib.Omega.{arith}
use Rattle.links.proofs.ChainLaws.{key_none, key_last}
use Rattle.links.proofs.chains.key.Goals as goal

pub returns-then-e-p : goal.returns-then-e-p
returns-then-e-p c = search key_none

pub returns : goal.returns
returns c = key_last _ _ _ c.requires c.if-e-p.false (omega (arith, c.type_inv.b (c.args.e - 1)))
