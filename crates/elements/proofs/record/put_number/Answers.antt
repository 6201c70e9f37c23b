use borrow.Author.Rules.{rules}
use Rattle.elements.specs.PutLaws.{put_then3}
use Rattle.elements.specs.Record.{record_bytes}
use Rattle.elements.proofs.record.put_number.Goals as goal

pub returns : goal.returns
unfolding record_bytes
returns c = search (put_then3, rules)
