use Rattle.reader.proofs.StageLaws.{first_kind}
use borrow.Author.Rules.{rules}
use Rattle.reader.proofs.dump.has_dir.Goals as goal

pub returns : goal.returns
returns c = search (first_kind, rules)
