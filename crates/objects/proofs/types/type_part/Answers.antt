use Rattle.rules.specs.Layouts as layouts
use Rattle.objects.proofs.types.type_part.Goals as goal

pub returns-in-PrivateKey : goal.returns-in-PrivateKey
unfolding layouts.typed
returns-in-PrivateKey c = rw c.in-PrivateKey.is c.due_private.ensures

pub returns-in-Certificate : goal.returns-in-Certificate
unfolding layouts.typed
returns-in-Certificate c = rw c.in-Certificate.is c.due_certificate.ensures

pub returns-in-Password : goal.returns-in-Password
unfolding layouts.typed
returns-in-Password c = rw c.in-Password.is c.due_password.ensures

pub returns-in-Sealed : goal.returns-in-Sealed
unfolding layouts.typed
returns-in-Sealed c = rw c.in-Sealed.is c.any_sealed.ensures
