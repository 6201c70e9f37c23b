use Rattle.makers.specs.MadeLaws.{next_there, when_no}
use Rattle.writer.proofs.MakeTemplateLaws.{discretionary_here}
use borrow.Author.Rules.{rules}
use Rattle.writer.proofs.make_template.due_discretionary.Goals as goal

pub record_end-next-requires : goal.record_end-next-requires
record_end-next-requires c = search (next_there, rules)

pub returns-then-is_next : goal.returns-then-is_next
returns-then-is_next c = discretionary_here c.is_next.ensures c.if-is_next.true c.record_end-next.ensures (search rules)

pub returns : goal.returns
returns c = search (when_no, rules)
