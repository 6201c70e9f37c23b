use Rattle.objects.specs.DidLaws.{did_left}
use Rattle.files.proofs.FillLaws.{info_fails, info_then}
use borrow.Author.Rules.{rules}
use Rattle.files.proofs.cia.info.Goals as goal

pub returns-in_err-at : goal.returns-in_err-at
returns-in_err-at c = search (did_left, info_fails, rules)

pub returns : goal.returns
returns c = search (info_then, rules)
