use borrow.Author.Rules.{rules}
use mathlib.Core.Path.{sym}
use Rattle.elements.specs.Utf8Laws.{one_range}
use Rattle.elements.proofs.CharLaws.{one_above}
use Rattle.elements.proofs.text.utf8_1.Goals as goal

pub returns-in-0-to-127 : goal.returns-in-0-to-127
returns-in-0-to-127 c = sym (one_range _ _ 0x00 0x7f (search rules) (search rules) (search rules) tt)

pub returns-in_default : goal.returns-in_default
returns-in_default c = search (one_above, rules)
