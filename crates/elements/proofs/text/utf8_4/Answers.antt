use borrow.Author.Rules.{rules}
use Rattle.elements.specs.Utf8Laws.{or_false}
use Rattle.elements.proofs.CharLaws.{is_low, is_high, four_no, four_half, four_yes, four_below, four_above}
use Rattle.elements.proofs.text.utf8_4.Goals as goal

pub returns-then-utf8_tail : goal.returns-then-utf8_tail
returns-then-utf8_tail c = search (four_yes 0xf0 0xf0 0x90 0xbf tt, or_false, is_low, is_high, rules)

pub returns-else-utf8_tail : goal.returns-else-utf8_tail
returns-else-utf8_tail c = search (four_half 0xf0 0xf0 0x90 0xbf tt, or_false, is_low, is_high, rules)

pub returns-else-byte : goal.returns-else-byte
returns-else-byte c = search (four_no 0xf0 0xf0 0x90 0xbf tt, or_false, is_low, is_high, rules)

pub returns-then-utf8_tail-2 : goal.returns-then-utf8_tail-2
returns-then-utf8_tail-2 c = search (four_yes 0xf4 0xf4 0x80 0x8f tt, is_low, is_high, rules)

pub returns-else-utf8_tail-2 : goal.returns-else-utf8_tail-2
returns-else-utf8_tail-2 c = search (four_half 0xf4 0xf4 0x80 0x8f tt, is_low, is_high, rules)

pub returns-else-byte-2 : goal.returns-else-byte-2
returns-else-byte-2 c = search (four_no 0xf4 0xf4 0x80 0x8f tt, is_low, is_high, rules)

pub returns-then-utf8_tail-4 : goal.returns-then-utf8_tail-4
returns-then-utf8_tail-4 c = four_yes 0xf1 0xf3 0x80 0xbf tt _ _ (or_false _) (search rules) (search rules) (search rules) c.utf8_tail-in-241-to-243.ensures (search rules) c.utf8_tail-then-utf8_tail-3.ensures (search rules) c.utf8_tail-then-utf8_tail-4.ensures

pub returns-else-utf8_tail-4 : goal.returns-else-utf8_tail-4
returns-else-utf8_tail-4 c = four_half 0xf1 0xf3 0x80 0xbf tt _ _ (or_false _) (search rules) (search rules) (search rules) c.utf8_tail-in-241-to-243.ensures (search rules) c.utf8_tail-then-utf8_tail-3.ensures (search rules)

pub returns-else-utf8_tail-3 : goal.returns-else-utf8_tail-3
returns-else-utf8_tail-3 c = four_no 0xf1 0xf3 0x80 0xbf tt _ _ (or_false _) (search rules) (search rules) (search rules) c.utf8_tail-in-241-to-243.ensures (search rules)

pub returns-in_default : goal.returns-in_default
returns-in_default c = four_below _ _ (search rules) (search rules)

pub returns-in_default-2 : goal.returns-in_default-2
returns-in_default-2 c = four_above _ _ (search rules) (search rules)
