use Rattle.why.proofs.StandsLaws.{standing_closed, standing_found, standing_other, standing_next, standing_all}
use Rattle.why.proofs.stands.stands_in.Goals as goal

pub returns-then-is_closing : goal.returns-then-is_closing
returns-then-is_closing c = search standing_closed

pub returns-then-same_bytes : goal.returns-then-same_bytes
returns-then-same_bytes c = search standing_found

pub loop-j-preserved-else-same_bytes : goal.loop-j-preserved-else-same_bytes
loop-j-preserved-else-same_bytes c = search standing_other

pub loop-j-preserved : goal.loop-j-preserved
loop-j-preserved c = search standing_next

pub returns : goal.returns
returns c = search standing_all
