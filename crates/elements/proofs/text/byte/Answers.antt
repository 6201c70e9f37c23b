use borrow.Author.Rules.{rules}
use Rattle.elements.proofs.CharLaws.{byte_none, byte_low, byte_high}
use Rattle.elements.proofs.text.byte.Goals as goal

pub returns-then-c-i : goal.returns-then-c-i
returns-then-c-i c = search (byte_none, rules)

pub returns-then-low-c : goal.returns-then-low-c
returns-then-low-c c = search (byte_high, rules)

pub returns-else-low-c : goal.returns-else-low-c
returns-else-low-c c = search (byte_low, rules)
