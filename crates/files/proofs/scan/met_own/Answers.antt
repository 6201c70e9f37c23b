use Rattle.files.proofs.ScanLaws.{unlike_none, place_whole, unlike_found, unlike_next, unlike_all}
use borrow.Author.Rules.{rules}
use Rattle.files.proofs.scan.met_own.Goals as goal

pub loop-k-init : goal.loop-k-init
loop-k-init c = search unlike_none

pub bears_it-requires : goal.bears_it-requires
bears_it-requires c = search (place_whole, rules)

pub returns-then-bears_it : goal.returns-then-bears_it
returns-then-bears_it c = search unlike_found

pub loop-k-preserved : goal.loop-k-preserved
loop-k-preserved c = search unlike_next

pub returns : goal.returns
returns c = search unlike_all
