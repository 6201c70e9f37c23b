use Rattle.std.proofs.Common.{inl, inr}
use native.Mathlib.Omega.{arith}
use Rattle.rules.specs.Parts.{payload}
use Rattle.objects.specs.DidLaws.{did_one}
use Rattle.objects.proofs.row.judged.Goals as goal

pub returns-in-Integer : goal.returns-in-Integer
unfolding payload
returns-in-Integer c = rw c.in-Integer.is c.number_row.ensures

pub returns-in-Boolean : goal.returns-in-Boolean
unfolding payload
returns-in-Boolean c = rw c.in-Boolean.is c.boolean_row.ensures

pub returns-in-Octets : goal.returns-in-Octets
unfolding payload
returns-in-Octets c = elim c.in-Octets.is [ inl z ↦ rw z c.bytes_row.ensures | inr z ↦ rw z c.bytes_row.ensures ]

pub returns-in-Bits : goal.returns-in-Bits
unfolding payload
returns-in-Bits c = rw c.in-Bits.is (did_one _ _ _ _ c.put_number-book.ensures.1 (omega arith) (omega arith))

pub returns-in-Time : goal.returns-in-Time
unfolding payload
returns-in-Time c =
    let d = did_one _ _ c.args.at.dump c.args.x.2 c.put_record-book.ensures.1 (omega arith) (omega arith) in
    elim c.in-Time.is [ inl z ↦ rw z d | inr z ↦ rw z d ]
