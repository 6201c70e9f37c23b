use Rattle.objects.specs.DidLaws.{did_left, did_fails, did_ends}
use borrow.Author.Rules.{rules}
use Rattle.files.proofs.entry.path_entry.Goals as goal

pub returns-in_err-at : goal.returns-in_err-at
returns-in_err-at c = search (did_left, did_fails, rules)

pub returns : goal.returns
returns c = search (did_ends, rules)
