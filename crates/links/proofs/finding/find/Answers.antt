use Rattle.links.proofs.ObjectLaws.{searching_closed, searching_found, searching_next, searching_all}
use Rattle.links.proofs.finding.find.Goals as goal

pub returns-then-is_closing : goal.returns-then-is_closing
returns-then-is_closing c = search searching_closed

pub returns-then-k-kind : goal.returns-then-k-kind
returns-then-k-kind c = search searching_found

pub loop-j-preserved : goal.loop-j-preserved
loop-j-preserved c = search searching_next

pub returns : goal.returns
returns c = search searching_all
