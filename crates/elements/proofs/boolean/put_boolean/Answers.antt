use borrow.Author.Rules.{rules}
use Rattle.elements.specs.Boolean.{boolean_bytes}
use Rattle.elements.specs.PutLaws.{put_as}
use Rattle.elements.proofs.Auto.{tests}
use Rattle.elements.proofs.boolean.put_boolean.Goals as goal

pub returns-then-v-eq0 : goal.returns-then-v-eq0
unfolding boolean_bytes
returns-then-v-eq0 c = search (put_as, tests, rules)

pub returns : goal.returns
unfolding boolean_bytes
returns c = search (put_as, tests, rules)
