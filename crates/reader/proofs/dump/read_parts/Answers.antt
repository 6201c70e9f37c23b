use Rattle.elements.specs.AnswerLaws.{leaves}
use native.Mathlib.Omega.{arith}
use Rattle.reader.proofs.StageLaws.{parts_fell, info_room, info_framing, parts_read}
use Rattle.reader.proofs.dump.read_parts.Goals as goal

pub returns-in_err-at : goal.returns-in_err-at
returns-in_err-at c = rw (leaves c.from_residual.ensures) (parts_fell c.requires.0 (λ i. omega (arith, c.shared_slice_known-1.given i)) c.requires.1 c.requires.2 c.requires.3 c.info.ensures c.in_err-at.was)

pub read_entries-requires : goal.read_entries-requires
read_entries-requires c = (info_framing c.requires.0 (λ i. omega (arith, c.shared_slice_known-1.given i)) c.requires.1 c.requires.2 c.requires.3 c.info.ensures c.in_ok-at.was, info_room c.requires.0 (λ i. omega (arith, c.shared_slice_known-1.given i)) c.requires.1 c.requires.2 c.requires.3 c.info.ensures c.in_ok-at.was, omega arith)

pub returns : goal.returns
returns c = parts_read c.requires.0 (λ i. omega (arith, c.shared_slice_known-1.given i)) c.requires.1 c.requires.2 c.requires.3 c.info.ensures c.in_ok-at.was c.read_entries.ensures
