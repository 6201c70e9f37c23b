use Rattle.elements.specs.Values.{value}
use Rattle.elements.proofs.value.value.Goals as goal

pub returns-in-Boolean : goal.returns-in-Boolean
unfolding value
returns-in-Boolean c = rw c.in-Boolean.is c.boolean.ensures

pub returns-in-Integer : goal.returns-in-Integer
unfolding value
returns-in-Integer c = rw c.in-Integer.is c.integer.ensures

pub returns-in-Bits : goal.returns-in-Bits
unfolding value
returns-in-Bits c = rw c.in-Bits.is c.bits.ensures

pub returns-in-Null : goal.returns-in-Null
unfolding value
returns-in-Null c = rw c.in-Null.is c.null.ensures

pub returns-in-Text : goal.returns-in-Text
unfolding value
returns-in-Text c = rw c.in-Text.is c.text.ensures

pub returns-in-Time : goal.returns-in-Time
unfolding value
returns-in-Time c = rw c.in-Time.is c.time.ensures

pub returns-in-Octets : goal.returns-in-Octets
unfolding value
returns-in-Octets c = rw c.in-Octets.is c.told.ensures
