use native.Mathlib.Omega.{arith}
use Rattle.layouts.proofs.AcceptLaws.{tried_long, tried_beyond, tried_holds, tried_none}
use Rattle.layouts.proofs.accept.tried.Goals as goal

pub returns-then-b-gt131072 : goal.returns-then-b-gt131072
returns-then-b-gt131072 c = tried_long _ _ (λ i. omega (arith, c.shared_slice_known-1.given i)) c.if-b-gt131072.true

pub returns-in_default : goal.returns-in_default
returns-in_default c = tried_beyond _ c.render_into.ensures c.in_default.is c.requires

pub returns-then-confirms : goal.returns-then-confirms
returns-then-confirms c = tried_holds _ c.render_into.ensures c.in-Ok.is c.confirms.ensures c.if-confirms.true

pub returns : goal.returns
returns c = tried_none _ c.render_into.ensures c.in-Ok.is c.confirms.ensures c.if-confirms.false
