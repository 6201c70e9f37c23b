use borrow.Author.Rules.{rules}
use Rattle.elements.specs.PutLaws.{put_then3}
use Rattle.elements.specs.RecordLaws.{record_made}
use Rattle.elements.proofs.record.put_record.Goals as goal

pub returns : goal.returns
returns c = search (put_then3, record_made, rules)
