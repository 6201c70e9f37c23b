use mathlib.Core.Path.{refl}
use Rattle.links.specs.Chains.{blank}
use Rattle.links.proofs.index.Index.new.Goals as goal

pub returns : goal.returns
returns c = (refl, blank)
