use borrow.Author.Rules.{rules}
use Rattle.links.proofs.ListLaws.{telling_none, telling_all, telling_closed, telling_same, telling_more}
use Rattle.links.proofs.rows.put_object.Goals as goal

pub loop-j-init : goal.loop-j-init
loop-j-init c = search telling_none

pub returns-then-is_closing : goal.returns-then-is_closing
returns-then-is_closing c = search (telling_closed, rules)

pub loop-j-preserved : goal.loop-j-preserved
loop-j-preserved c = search (telling_same, rules)

pub loop-j-preserved-in-Some : goal.loop-j-preserved-in-Some
loop-j-preserved-in-Some c = search (telling_more, rules)

pub returns : goal.returns
returns c = search (telling_all, rules)
