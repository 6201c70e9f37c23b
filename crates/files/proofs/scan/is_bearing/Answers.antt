use Rattle.files.proofs.ScanLaws.{bears_own, bears_path}
use Rattle.files.proofs.scan.is_bearing.Goals as goal

pub returns-in-Path : goal.returns-in-Path
returns-in-Path c = search bears_path

pub returns-in-Own : goal.returns-in-Own
returns-in-Own c = search bears_own
