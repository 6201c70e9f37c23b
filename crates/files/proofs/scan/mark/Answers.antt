use Rattle.files.proofs.ScanLaws.{mark_none}
use Rattle.files.proofs.scan.mark.Goals as goal

pub returns : goal.returns
returns c = search mark_none
