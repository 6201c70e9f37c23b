use Rattle.elements.specs.AnswerLaws.{leaves}
use native.Mathlib.Omega.{arith}
use Rattle.reader.proofs.StageLaws.{entries_refused, entries_opened, entries_read}
use Rattle.reader.proofs.dump.read_entries.Goals as goal

pub returns-in_err-read : goal.returns-in_err-read
returns-in_err-read c = rw (leaves c.from_residual.ensures) (entries_refused c.requires.0 (λ i. omega (arith, c.shared_slice_known-1.given i)) c.requires.1 c.requires.2 c.object_directory.ensures c.in_err-read.was)

pub read_files-requires : goal.read_files-requires
read_files-requires c = entries_opened c.requires.0 (λ i. omega (arith, c.shared_slice_known-1.given i)) c.requires.1 c.requires.2 c.object_directory.ensures c.in_ok-read.was

pub returns : goal.returns
returns c = entries_read c.requires.0 (λ i. omega (arith, c.shared_slice_known-1.given i)) c.requires.1 c.requires.2 c.object_directory.ensures c.in_ok-read.was c.read_files.ensures
