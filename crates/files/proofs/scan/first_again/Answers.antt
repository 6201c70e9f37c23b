use Rattle.files.proofs.ScanLaws.{again_kept, again_told}
use Rattle.files.proofs.scan.first_again.Goals as goal

pub returns-in-Some : goal.returns-in-Some
returns-in-Some c = search again_kept

pub returns-in-None : goal.returns-in-None
returns-in-None c = search again_told
