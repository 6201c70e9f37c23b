use Rattle.files.specs.ObjectsLaws.{objects_left, objects_fell, objects_did}
use Rattle.files.proofs.EntryLaws.{body_known, body_context, body_neither, plain_sealed}
use borrow.Author.Rules.{rules}
use Rattle.files.proofs.entry.entry_body.Goals as goal

pub returns-then-is_known : goal.returns-then-is_known
returns-then-is_known c = search (body_known, rules)

pub returns-in_err-at : goal.returns-in_err-at
returns-in_err-at c = objects_left c.from_residual.ensures (body_context _ _ 0 _ _ _ _ _ c.is_known.ensures c.if-is_known.false c.is_context.ensures c.if-is_context.true (objects_fell _ _ c.in_err-at.ensures))

pub returns-then-is_context : goal.returns-then-is_context
returns-then-is_context c = body_context _ _ 0 _ _ _ _ _ c.is_known.ensures c.if-is_known.false c.is_context.ensures c.if-is_context.true (objects_did _ _ (plain_sealed _ _ _ _ _ _ _) c.requires.0 c.in_ok-at.ensures)

pub returns : goal.returns
returns c = search (body_neither, rules)
