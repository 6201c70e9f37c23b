use Rattle.files.proofs.FillLaws.{info_inside}
use borrow.Author.Rules.{rules}
use Rattle.files.proofs.cia.info_body.Goals as goal

pub returns : goal.returns
returns c = search (info_inside, rules)
