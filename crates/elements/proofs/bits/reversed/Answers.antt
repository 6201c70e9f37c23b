use mathlib.Core.Path.{refl}
use Rattle.elements.specs.Bits.{reversed}
use Rattle.elements.proofs.bits.reversed.Goals as goal

pub returns : goal.returns
unfolding reversed
returns c = refl
