use Rattle.elements.specs.PutLaws.{put_put}
use borrow.Author.Rules.{rules}
use Rattle.rules.proofs.KeptLaws.{kept_both}
use Rattle.rules.proofs.kept.kept_out.Goals as goal

pub returns : goal.returns
returns c = search (kept_both, put_put, rules)
