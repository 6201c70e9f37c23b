use borrow.Author.Rules.{rules}
use Rattle.objects.specs.DidLaws.{did_left}
use Rattle.objects.proofs.RowLaws.{row_refused, row_boolean, row_taken}
use Rattle.objects.proofs.row.row_body.Goals as goal

pub returns-in_err-n : goal.returns-in_err-n
returns-in_err-n c = search (did_left, row_refused, rules)

pub judged-requires : goal.judged-requires
judged-requires c = search (row_boolean, rules)

pub returns : goal.returns
returns c = search (row_taken, rules)
