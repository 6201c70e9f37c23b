use borrow.Author.Rules.{rules}
use Rattle.elements.specs.PutLaws.{put_then}
use Rattle.elements.proofs.store.put_le32.Goals as goal

pub returns : goal.returns
returns c = search (put_then, rules)
