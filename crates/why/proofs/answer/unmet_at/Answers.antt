use borrow.Author.Rules.{rules}
use Rattle.why.proofs.AnswerLaws.{unmet_some}
use Rattle.why.proofs.answer.unmet_at.Goals as goal

pub returns-in-Some : goal.returns-in-Some
returns-in-Some c = search (unmet_some, rules)
