use borrow.Author.Rules.{rules}
use Rattle.rules.specs.Objects.{type_body}
use Rattle.objects.specs.Did.{Inside}
use Rattle.objects.proofs.types.due_type.Goals as goal

pub returns : goal.returns
returns c =
    (c.due.ensures (type_body c.args.s.now c.args.y) (λ x o r p t z.
    let i : Inside o.now p.now c.args.at.book x.1 x.2 (type_body c.args.s.now c.args.y) r = search rules in
    i.is c.args.at.dump)).0
