use native.Mathlib.Nat.{sub-zero}
use borrow.Author.Rules.{rules}
use Rattle.elements.proofs.ScanLaws.{digit_on, digit_off, digits_end}
use Rattle.elements.proofs.time.digits.Goals as goal

pub loop-i-init : goal.loop-i-init
loop-i-init c = (search rules, rw sub-zero)

pub returns-then-not-is_digit : goal.returns-then-not-is_digit
returns-then-not-is_digit c = search digit_off

pub loop-i-preserved : goal.loop-i-preserved
loop-i-preserved c = (search rules, search digit_on)

pub returns : goal.returns
returns c = search digits_end
