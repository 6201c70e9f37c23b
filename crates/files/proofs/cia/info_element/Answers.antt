use Rattle.files.proofs.FillLaws.{info_none, info_one}
use borrow.Author.Rules.{rules}
use Rattle.files.proofs.cia.info_element.Goals as goal

pub returns-then-goes_on : goal.returns-then-goes_on
returns-then-goes_on c = search (info_one, rules)

pub returns : goal.returns
returns c = search (info_none, rules)
