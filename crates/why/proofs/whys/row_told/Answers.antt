use borrow.Author.Rules.{rules}
use mathlib.Core.Path.{refl}
use Rattle.why.proofs.WhyLaws.{why_none, why_link, why_inside, why_told_lem}
use Rattle.why.proofs.whys.row_told.Goals as goal

pub returns-then-rows-row : goal.returns-then-rows-row
returns-then-rows-row c = search (why_none, rules)

pub unwrap-link-requires : goal.unwrap-link-requires
unwrap-link-requires c = why_link c.args.b.now _ refl c.put_links-rows.ensures.0 c.if-rows-row.false _ c.try_from.ensures

pub explained-requires : goal.explained-requires
explained-requires c = (search rules, search rules, why_inside c.args.b.now _ refl c.put_links-rows.ensures.0 c.if-rows-row.false)

pub returns : goal.returns
returns c = why_told_lem c.args.b.now _ refl c.put_links-rows.ensures.0 c.if-rows-row.false c.requires.0 (rw c.unwrap-link.ensures at c.try_from.ensures) c.explained.ensures
