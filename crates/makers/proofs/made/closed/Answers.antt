use Rattle.elements.specs.AnswerLaws.{leaves}
use Rattle.makers.specs.MadeLaws.{wrap_grows, closed_none, closed_short, closed_long, closed_moved}
use borrow.Author.Rules.{rules}
use Rattle.makers.proofs.made.closed.Goals as goal

pub returns-in_err-next : goal.returns-in_err-next
returns-in_err-next c = rw (c.in_err-next.was, leaves c.from_residual.ensures) (closed_none (wrap_grows c.args.tag))

pub returns-then-end-o : goal.returns-then-end-o
returns-then-end-o c = rw c.in_ok-next.was (closed_short (wrap_grows c.args.tag) c.if-end-o.true)

pub returns-then-out-end : goal.returns-then-out-end
returns-then-out-end c = rw c.in_ok-next.was (search (closed_long, rules))

pub returns : goal.returns
returns c = rw c.in_ok-next.was (search (closed_moved, rules))
