use Rattle.reader.proofs.FrameLaws.{whole_broken, whole_transparent, whole_fits, whole_over, inner_none, inner_so, inner_mid, inner_high}
use borrow.Author.Rules.{rules}
use Rattle.reader.proofs.frame.whole_frame.Goals as goal

pub records_fit-requires : goal.records_fit-requires
records_fit-requires c = search (inner_mid, inner_high, rules)

pub returns-in_err-file : goal.returns-in_err-file
returns-in_err-file c = search (whole_broken, inner_none, rules)

pub returns-then-file-eq3 : goal.returns-then-file-eq3
returns-then-file-eq3 c = search (whole_transparent, inner_so, rules)

pub returns-then-records_fit : goal.returns-then-records_fit
returns-then-records_fit c = search (whole_fits, inner_so, rules)

pub returns : goal.returns
returns c = search (whole_over, inner_none, rules)
