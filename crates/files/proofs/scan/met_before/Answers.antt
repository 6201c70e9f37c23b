use borrow.Author.Rules.{rules}
use Rattle.files.specs.LiesLaws.{whole}
use Rattle.files.proofs.ScanLaws.{unmet_none, unmet_found, unmet_next, unmet_all}
use Rattle.files.proofs.scan.met_before.Goals as goal

pub loop-k-init : goal.loop-k-init
loop-k-init c = search unmet_none

pub bears_it-requires : goal.bears_it-requires
bears_it-requires c = search (whole, rules)

pub returns-then-bears_it : goal.returns-then-bears_it
returns-then-bears_it c = search unmet_found

pub after-k-requires : goal.after-k-requires
after-k-requires c = search whole

pub loop-k-preserved : goal.loop-k-preserved
loop-k-preserved c = search unmet_next

pub returns : goal.returns
returns c = search unmet_all
