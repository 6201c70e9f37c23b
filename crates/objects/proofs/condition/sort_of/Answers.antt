use Rattle.std.proofs.Common.{refl}
use Rattle.rules.specs.Tables.{sort_by}
use Rattle.objects.proofs.Auto.{tests}
use Rattle.objects.proofs.condition.sort_of.Goals as goal

pub returns-in-5 : goal.returns-in-5
unfolding sort_by
returns-in-5 c = rw c.in-5.is refl

pub returns-in-4 : goal.returns-in-4
unfolding sort_by
returns-in-4 c = rw c.in-4.is refl

pub returns-in-160 : goal.returns-in-160
unfolding sort_by
returns-in-160 c = rw c.in-160.is refl

pub returns-in-161 : goal.returns-in-161
unfolding sort_by
returns-in-161 c = rw c.in-161.is refl

pub returns-in-162 : goal.returns-in-162
unfolding sort_by
returns-in-162 c = rw c.in-162.is refl

pub returns-in_default : goal.returns-in_default
unfolding sort_by
returns-in_default c = search tests
