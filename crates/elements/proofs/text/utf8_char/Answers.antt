use borrow.Author.Rules.{rules}
use Rattle.elements.proofs.CharLaws.{char_1, char_2, char_3, char_4, char_0}
use Rattle.elements.proofs.text.utf8_char.Goals as goal

pub returns-then-utf8_1 : goal.returns-then-utf8_1
returns-then-utf8_1 c = search (char_1, rules)

pub returns-then-utf8_2 : goal.returns-then-utf8_2
returns-then-utf8_2 c = search (char_2, rules)

pub returns-then-utf8_3 : goal.returns-then-utf8_3
returns-then-utf8_3 c = search (char_3, rules)

pub returns-then-utf8_4 : goal.returns-then-utf8_4
returns-then-utf8_4 c = search (char_4, rules)

pub returns : goal.returns
returns c = search (char_0, rules)
