use Rattle.links.proofs.ObjectLaws.{seeking_found, seeking_next, seeking_all}
use Rattle.links.proofs.finding.next_object.Goals as goal

pub returns-then-word-eq288 : goal.returns-then-word-eq288
returns-then-word-eq288 c = search seeking_found

pub loop-j-preserved : goal.loop-j-preserved
loop-j-preserved c = search seeking_next

pub returns : goal.returns
returns c = search seeking_all
