use Rattle.std.specs.Prelude.{◌≡◌, suc, ◌+◌, ◌-◌, length}
use Rattle.std.proofs.Common.{refl}
use native.Mathlib.Omega.{arith}
use lib.Seq.{slice, length-slice}
use Rattle.elements.specs.PutLaws.{put_put, put_then}
use Rattle.elements.specs.Record.{record_bytes}
use Rattle.objects.proofs.records.put_behind.Goals as goal

pub returns : goal.returns
unfolding record_bytes
returns c = let l = length-slice c.args.a c.args.e c.args.s.now c.requires.1 in
    let n : suc (suc (length (slice c.args.a c.args.e c.args.s.now))) + 2 ≡ c.args.e - c.args.a + 4 = omega (arith, l) in
    (omega (arith, l), put_then (put_put (put_put (put_put c.put_le16-p.ensures c.put_le16-q.ensures) c.put-q.ensures) c.put-q-2.ensures) c.put_part.ensures.1 (rw n refl))
