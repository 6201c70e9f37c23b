use borrow.Author.Rules.{rules}
use borrow.Author.Tests.{le-leb, lt-leb}
use Rattle.elements.proofs.time.is_digit.Goals as goal

pub returns-in-48-to-57 : goal.returns-in-48-to-57
returns-in-48-to-57 c = rw (le-leb 48 c.args.x (search rules), le-leb c.args.x 57 (search rules))

pub returns-in_default : goal.returns-in_default
returns-in_default c = rw (lt-leb 48 c.args.x (search rules))

pub returns-in_default-2 : goal.returns-in_default-2
returns-in_default-2 c = rw (le-leb 48 c.args.x (search rules), lt-leb c.args.x 57 (search rules))
