use Rattle.std.proofs.Common.{refl}
use Rattle.elements.proofs.PartLaws.{partly_more, partly_all}
use Rattle.elements.proofs.store.put_part.Goals as goal

pub loop-i-preserved : goal.loop-i-preserved
loop-i-preserved c = partly_more c.places-n.ensures c.requires.0 c.requires.1 c.loop-i.invariant c.loop-i-test.true

pub returns : goal.returns
returns c = (refl, partly_all c.places-n.ensures c.requires.0 c.requires.1 c.loop-i.invariant c.loop-i-test.false)
