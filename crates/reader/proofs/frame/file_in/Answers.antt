use borrow.Author.Rules.{rules}
use Rattle.reader.proofs.FrameLaws.{file_path, file_long, file_whole}
use Rattle.reader.proofs.frame.file_in.Goals as goal

pub returns-then-stop-start : goal.returns-then-stop-start
returns-then-stop-start c = search (file_path, rules)

pub returns-then-stop-start-gt16383 : goal.returns-then-stop-start-gt16383
returns-then-stop-start-gt16383 c = search (file_long, rules)

pub returns : goal.returns
returns c = search (file_whole, rules)
