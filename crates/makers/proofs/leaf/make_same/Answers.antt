use Rattle.makers.proofs.LeafLaws.{same_long, same_took}
use borrow.Author.Rules.{rules}
use Rattle.makers.proofs.leaf.make_same.Goals as goal

pub returns-then-out-made : goal.returns-then-out-made
returns-then-out-made c = search (same_long, rules)

pub returns : goal.returns
returns c = same_took c.record_end-e.ensures c.count_at-n.ensures c.if-out-made.false (search rules) c.byte_at.ensures (c.fill.ensures.after (λ y e. e))
