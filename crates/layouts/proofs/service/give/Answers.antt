use Rattle.std.proofs.Common.{refl}
use Rattle.std.proofs.Math.Seq.{take-length}
use Rattle.elements.specs.PutLaws.{put_as}
use Rattle.layouts.specs.GivingLaws.{gives_none, gives_all}
use Rattle.layouts.proofs.service.give.Goals as goal

pub returns-then-lent-n : goal.returns-then-lent-n
returns-then-lent-n c = gives_none refl c.if-lent-n.true

pub returns : goal.returns
returns c = gives_all refl c.if-lent-n.false (put_as c.put_part.ensures.1 (take-length c.args.from.now))
