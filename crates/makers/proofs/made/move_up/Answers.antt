use Rattle.makers.specs.MadeLaws.{moved_same}
use Rattle.makers.specs.Shifts.{shifting_start, shifting_more, shifting_done}
use borrow.Author.Rules.{rules}
use Rattle.makers.proofs.made.move_up.Goals as goal

pub returns-then-by-eq0 : goal.returns-then-by-eq0
returns-then-by-eq0 c = search (moved_same, rules)

pub loop-k-init : goal.loop-k-init
loop-k-init c = search (shifting_start, rules)

pub loop-k-preserved : goal.loop-k-preserved
loop-k-preserved c = search (shifting_more, rules)

pub returns : goal.returns
returns c = search (shifting_done, rules)
