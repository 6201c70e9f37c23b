use Rattle.objects.specs.DidLaws.{did_left}
use Rattle.files.proofs.EntryLaws.{unknown_bad, unknown_put}
use borrow.Author.Rules.{rules}
use Rattle.files.proofs.entry.unknown_entry.Goals as goal

pub returns-in_err-inner_run : goal.returns-in_err-inner_run
returns-in_err-inner_run c = did_left c.from_residual.ensures (unknown_bad _ _ _ _ _ _ _ c.in_err-inner_run.ensures)

pub returns : goal.returns
returns c = search (unknown_put, rules)
