use Rattle.files.specs.LiesLaws.{whole}
use Rattle.files.proofs.ScanLaws.{unnamed_none, unnamed_found, unnamed_next, unnamed_all}
use Rattle.files.proofs.scan.next_name.Goals as goal

pub loop-j-init : goal.loop-j-init
loop-j-init c = search unnamed_none

pub is_bearing-requires : goal.is_bearing-requires
is_bearing-requires c = search whole

pub returns-then-is_bearing : goal.returns-then-is_bearing
returns-then-is_bearing c = search unnamed_found

pub after-j-requires : goal.after-j-requires
after-j-requires c = search whole

pub loop-j-preserved : goal.loop-j-preserved
loop-j-preserved c = search unnamed_next

pub returns : goal.returns
returns c = search unnamed_all
