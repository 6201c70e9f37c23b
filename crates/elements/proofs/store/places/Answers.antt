use native.Mathlib.Omega.{arith}
use Rattle.elements.proofs.store.places.Goals as goal

pub returns-then-len-o : goal.returns-then-len-o
returns-then-len-o c = record { most = omega arith; inside = λ h. omega arith; all = λ h. omega arith }

pub returns-then-len-o-2 : goal.returns-then-len-o-2
returns-then-len-o-2 c = record { most = omega arith; inside = λ h. omega arith; all = λ h. omega arith }

pub returns : goal.returns
returns c = record { most = omega arith; inside = λ h. omega arith; all = λ h. omega arith }
