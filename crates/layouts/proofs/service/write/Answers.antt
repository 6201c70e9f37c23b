use Rattle.layouts.proofs.ServiceLaws.{write_refused, write_given}
use Rattle.layouts.proofs.service.write.Goals as goal

pub returns-in-Some : goal.returns-in-Some
returns-in-Some c = write_given c.tried.ensures c.in-Some.is c.give.ensures

pub returns-in-None : goal.returns-in-None
returns-in-None c = write_refused c.tried.ensures c.in-None.is
