use borrow.Author.Rules.{rules}
use Rattle.links.proofs.IndexLaws.{entering_next}
use Rattle.links.proofs.index.Index.enter.Goals as goal

pub loop-n-preserved : goal.loop-n-preserved
loop-n-preserved c = search (entering_next, rules)
