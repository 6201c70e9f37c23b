use Rattle.elements.specs.AnswerLaws.{leaves}
use Rattle.layouts.proofs.ServiceLaws.{read_refused, read_given}
use Rattle.layouts.proofs.service.read.Goals as goal

pub returns-in_err-n : goal.returns-in_err-n
returns-in_err-n c = rw (leaves c.from_residual.ensures) (read_refused _ c.read_into.ensures c.in_err-n.was)

pub returns : goal.returns
returns c = read_given _ c.read_into.ensures c.in_ok-n.was c.give.ensures
