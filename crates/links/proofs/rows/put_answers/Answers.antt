use borrow.Author.Rules.{rules}
use Rattle.links.specs.FindingLaws.{place_within}
use Rattle.links.proofs.RowLaws.{answering_none, answering_fits, answering_more, answering_same, answering_some, answering_missing}
use Rattle.links.proofs.rows.put_answers.Goals as goal

pub loop-next-init : goal.loop-next-init
loop-next-init c = search answering_none

pub bounds-index-j : goal.bounds-index-j
bounds-index-j c = search (answering_fits, rules)

pub bounds-index-j-in-Some : goal.bounds-index-j-in-Some
bounds-index-j-in-Some c = search (answering_fits, rules)

pub is_answer-requires : goal.is_answer-requires
is_answer-requires c = (place_within c.requires.0.entered c.requires.1 (c.loop-next.invariant.here c.in-Some.j c.in-Some.is).0, c.requires.2, c.requires.1.high)

pub loop-next-preserved-then-is_answer : goal.loop-next-preserved-then-is_answer
loop-next-preserved-then-is_answer c = search (answering_more, rules)

pub loop-next-preserved : goal.loop-next-preserved
loop-next-preserved c = search (answering_same, rules)

pub returns-then-q-o : goal.returns-then-q-o
returns-then-q-o c = search (answering_missing, rules)

pub returns : goal.returns
returns c = search (answering_some, rules)
