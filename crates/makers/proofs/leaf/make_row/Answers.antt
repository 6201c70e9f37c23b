use Rattle.rules.specs.Render.{Renderer, gives, within, from, unvalue, r_row}
use Rattle.makers.specs.MadeLaws.{when_yes, when_no}
use borrow.Author.Rules.{rules}
use Rattle.makers.proofs.leaf.make_row.Goals as goal

pub returns-then-is_next : goal.returns-then-is_next
unfolding r_row
returns-then-is_next c =
    let told : Renderer = from (λ k p rs. gives (unvalue c.args.r.form p) rs) in
    when_yes _ (within c.args.r.tag told) _ _ (rw c.from.ensures at c.is_next.ensures) c.if-is_next.true (search rules)

pub returns : goal.returns
unfolding r_row
returns c = when_no _ (within c.args.r.tag (from (λ k p rs. gives (unvalue c.args.r.form p) rs))) _ _ (rw c.from.ensures at c.is_next.ensures) c.if-is_next.false (search rules) (search rules)
