use Rattle.std.proofs.Common.{refl}
use native.Mathlib.Omega.{arith}
use Rattle.elements.specs.PutLaws.{put_upto}
use Rattle.rules.specs.Parts.{rest}
use Rattle.objects.specs.DidLaws.{did_none, did_as}
use Rattle.objects.proofs.Auto.{tests}
use Rattle.objects.proofs.keep.rest_in.Goals as goal

pub returns-then-end-at : goal.returns-then-end-at
unfolding rest
returns-then-end-at c = search (tests, did_none)

pub returns : goal.returns
returns c = did_as c.rest.ensures (rw (c.rest_of.ensures, put_upto c.kept_out-n.ensures.0 (omega arith)) refl)
