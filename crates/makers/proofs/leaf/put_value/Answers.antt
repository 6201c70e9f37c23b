use Rattle.makers.proofs.LeafLaws.{value_integer, value_bits, value_boolean, value_bytes}
use borrow.Author.Rules.{rules}
use Rattle.makers.proofs.leaf.put_value.Goals as goal

pub returns-in-Integer : goal.returns-in-Integer
returns-in-Integer c = search (value_integer, rules)

pub returns-in-Bits : goal.returns-in-Bits
returns-in-Bits c = search (value_bits, rules)

pub returns-in-Boolean : goal.returns-in-Boolean
returns-in-Boolean c = search (value_boolean, rules)

pub returns-in-Octets : goal.returns-in-Octets
returns-in-Octets c = value_bytes _ c.in-Octets.is c.put_part.ensures.1
