use borrow.Author.Rules.{rules}
use Rattle.why.proofs.AnswerLaws.{met_some}
use Rattle.why.proofs.answer.met_at.Goals as goal

pub returns-in-Some : goal.returns-in-Some
returns-in-Some c = search (met_some, rules)
