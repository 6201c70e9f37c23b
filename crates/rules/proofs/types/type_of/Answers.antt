use borrow.Author.Rules.{rules}
use Rattle.rules.proofs.TagLaws.{type_other, type_key, type_password, type_certificate, type_below, type_above}
use Rattle.rules.proofs.types.type_of.Goals as goal

pub returns-then-tag-ne48 : goal.returns-then-tag-ne48
returns-then-tag-ne48 c = type_other _ c.if-tag-ne48.true

pub returns-in-160 : goal.returns-in-160
returns-in-160 c = type_key _ c.if-tag-ne48.false c.in-160.is

pub returns-in-168 : goal.returns-in-168
returns-in-168 c = type_password _ c.if-tag-ne48.false c.in-168.is

pub returns-in-164-to-166 : goal.returns-in-164-to-166
returns-in-164-to-166 c = type_certificate _ c.if-tag-ne48.false (search rules) (search rules) (search rules)

pub returns-in_default : goal.returns-in_default
returns-in_default c = type_below _ c.if-tag-ne48.false (search rules) (search rules) (search rules)

pub returns-in_default-2 : goal.returns-in_default-2
returns-in_default-2 c = type_above _ c.if-tag-ne48.false (search rules) (search rules) (search rules)
