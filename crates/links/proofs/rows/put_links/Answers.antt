use borrow.Author.Rules.{rules}
use Rattle.links.proofs.ListLaws.{linking_none, linking_all, linking_next}
use Rattle.links.proofs.rows.put_links.Goals as goal

pub loop-k-init : goal.loop-k-init
loop-k-init c = search linking_none

pub loop-k-preserved : goal.loop-k-preserved
loop-k-preserved c = linking_next c.loop-k.invariant c.in-Some.ensures c.record_end-i.ensures c.byte_at-tag.ensures c.put_object-q.ensures.0 c.put_object-q.ensures.1

pub returns : goal.returns
returns c = search (linking_all, rules)
