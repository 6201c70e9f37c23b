use borrow.Author.Rules.{rules}
use Rattle.rules.specs.Layouts as layouts
use Rattle.makers.proofs.make_type.make_type.Goals as goal

pub returns-in-PrivateKey : goal.returns-in-PrivateKey
unfolding layouts.typed
returns-in-PrivateKey c = rw c.in-PrivateKey.is (search rules)

pub returns-in-Certificate : goal.returns-in-Certificate
unfolding layouts.typed
returns-in-Certificate c = rw c.in-Certificate.is (search rules)

pub returns-in-Password : goal.returns-in-Password
unfolding layouts.typed
returns-in-Password c = rw c.in-Password.is (search rules)

pub returns-in-Sealed : goal.returns-in-Sealed
unfolding layouts.typed
returns-in-Sealed c = rw c.in-Sealed.is c.make_keep.ensures
