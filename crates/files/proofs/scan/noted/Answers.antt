use Rattle.files.proofs.ScanLaws.{noted_full, noted_same, noted_more}
use native.Mathlib.Omega.{arith}
use Rattle.files.proofs.scan.noted.Goals as goal

pub returns-then-c-ge128 : goal.returns-then-c-ge128
returns-then-c-ge128 c = search noted_full

pub returns-then-j-lt4294967296 : goal.returns-then-j-lt4294967296
returns-then-j-lt4294967296 c = search noted_more

pub returns-then-is_bearing : goal.returns-then-is_bearing
returns-then-is_bearing c = noted_full _ _ _ _ _ (omega arith)

pub returns : goal.returns
returns c = search noted_same
