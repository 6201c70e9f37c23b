use borrow.Author.Rules.{rules}
use Rattle.elements.proofs.FurtherLaws.{further_start, further_cut, further_last, further_next, further_none}
use Rattle.elements.proofs.headers.further.Goals as goal

pub loop-turn-init : goal.loop-turn-init
loop-turn-init c = search (further_start, rules)

pub returns-then-end-p : goal.returns-then-end-p
returns-then-end-p c = search (further_cut, rules)

pub returns-then-s-p-lt128 : goal.returns-then-s-p-lt128
returns-then-s-p-lt128 c = search (further_last, rules)

pub loop-turn-preserved : goal.loop-turn-preserved
loop-turn-preserved c = search (further_next, rules)

pub returns : goal.returns
returns c = search (further_none, rules)
