use mathlib.Core.Path.{refl}
use borrow.Author.Rules.{rules}
use Rattle.elements.specs.Utf8Laws.{or_false}
use Rattle.elements.proofs.CharLaws.{is_low, is_high, three_no, three_yes, three_below, three_above}
use Rattle.elements.proofs.text.utf8_3.Goals as goal

pub returns-then-byte : goal.returns-then-byte
returns-then-byte c = search (three_yes 0xe0 0xe0 0xa0 0xbf tt, or_false, is_low, is_high, rules)

pub returns-else-byte : goal.returns-else-byte
returns-else-byte c = search (three_no 0xe0 0xe0 0xa0 0xbf tt, or_false, is_low, is_high, rules)

pub returns-then-byte-2 : goal.returns-then-byte-2
returns-then-byte-2 c = search (three_yes 0xed 0xed 0x80 0x9f tt, or_false, is_low, is_high, rules)

pub returns-else-byte-2 : goal.returns-else-byte-2
returns-else-byte-2 c = search (three_no 0xed 0xed 0x80 0x9f tt, or_false, is_low, is_high, rules)

pub returns-then-utf8_tail : goal.returns-then-utf8_tail
returns-then-utf8_tail c = three_yes 0xe1 0xec 0x80 0xbf tt _ _ (or_false _) (search rules) (search rules) (search rules) c.utf8_tail-in-225-to-236.ensures (search rules) c.utf8_tail-then-utf8_tail.ensures

pub returns-else-utf8_tail : goal.returns-else-utf8_tail
returns-else-utf8_tail c = three_no 0xe1 0xec 0x80 0xbf tt _ _ (or_false _) (search rules) (search rules) (search rules) c.utf8_tail-in-225-to-236.ensures (search rules)

pub returns-then-utf8_tail-2 : goal.returns-then-utf8_tail-2
returns-then-utf8_tail-2 c = three_yes 0xee 0xef 0x80 0xbf tt _ _ refl (search rules) (search rules) (search rules) c.utf8_tail-in-238-to-239.ensures (search rules) c.utf8_tail-then-utf8_tail-2.ensures

pub returns-else-utf8_tail-2 : goal.returns-else-utf8_tail-2
returns-else-utf8_tail-2 c = three_no 0xee 0xef 0x80 0xbf tt _ _ refl (search rules) (search rules) (search rules) c.utf8_tail-in-238-to-239.ensures (search rules)

pub returns-in_default : goal.returns-in_default
returns-in_default c = search (three_below, three_above, rules)

pub returns-in_default-2 : goal.returns-in_default-2
returns-in_default-2 c = search (three_below, three_above, rules)
