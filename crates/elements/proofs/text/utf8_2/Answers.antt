use borrow.Author.Rules.{rules}
use mathlib.Core.Path.{sym, ◌∙◌}
use Rattle.elements.specs.Utf8Laws.{two_range}
use Rattle.elements.proofs.CharLaws.{two_below, two_above}
use Rattle.elements.proofs.text.utf8_2.Goals as goal

pub returns-in-194-to-223 : goal.returns-in-194-to-223
returns-in-194-to-223 c = c.utf8_tail.ensures ∙ sym (two_range _ _ 0xc2 0xdf (search rules) (search rules) (search rules) tt)

pub returns-in_default : goal.returns-in_default
returns-in_default c = search (two_below, two_above, rules)

pub returns-in_default-2 : goal.returns-in_default-2
returns-in_default-2 c = search (two_below, two_above, rules)
