use Rattle.layouts.proofs.AcceptLaws.{confirms_not, confirms_by}
use Rattle.layouts.proofs.accept.confirms.Goals as goal

pub returns-in-Ok : goal.returns-in-Ok
returns-in-Ok c = confirms_by _ _ c.read_into.ensures c.in-Ok.is c.eq.ensures

pub returns-in-Err : goal.returns-in-Err
returns-in-Err c = confirms_not _ _ c.read_into.ensures c.in-Err.is
