use Rattle.elements.specs.PutLaws.{put_then}
use Rattle.elements.specs.Record.{record_bytes}
use borrow.Author.Rules.{rules}
use Rattle.objects.proofs.records.put_bare.Goals as goal

pub returns : goal.returns
unfolding record_bytes
returns c = search (put_then, rules)
