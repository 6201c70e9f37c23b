use native.Mathlib.Omega.{arith}
use Rattle.std.proofs.Common.{sym}
use lib.Seq.{length-take-le}
use Rattle.elements.specs.AnswerLaws.{leaves}
use Rattle.reader.proofs.StageLaws.{files_twice, files_wrong, files_fell, files_hold, files_marks, files_clash, files_all}
use Rattle.reader.proofs.dump.read_files.Goals as goal

pub returns-in-Some : goal.returns-in-Some
returns-in-Some c = files_twice c.requires c.in-Some.is

pub returns-in_err-follow : goal.returns-in_err-follow
returns-in_err-follow c = rw (leaves c.from_residual.ensures) (files_wrong c.requires c.in_default.is c.follow.ensures c.in_err-follow.was)

pub returns-in_err-n : goal.returns-in_err-n
returns-in_err-n c = rw (leaves c.from_residual-in_err-n.ensures) (files_fell c.requires c.in_default.is c.follow.ensures c.in_ok-follow.was c.directories.ensures c.in_err-n.was)

pub slice_bounds-id_twice-end : goal.slice_bounds-id_twice-end
slice_bounds-id_twice-end c = files_marks c.requires c.directories.ensures c.in_ok-n.was

pub slice_bounds-id_twice-end-2 : goal.slice_bounds-id_twice-end-2
slice_bounds-id_twice-end-2 c = sym (length-take-le _ _ (files_marks c.requires c.directories.ensures c.in_ok-n.was))

pub id_twice-requires : goal.id_twice-requires
id_twice-requires c = files_hold c.requires c.in_default.is c.follow.ensures c.in_ok-follow.was c.directories.ensures (λ i. omega (arith, c.shared_slice_known-1.given i)) c.in_ok-n.was

pub returns-in-Some-id_twice : goal.returns-in-Some-id_twice
returns-in-Some-id_twice c = files_clash c.requires c.in_default.is c.follow.ensures c.in_ok-follow.was c.directories.ensures (λ i. omega (arith, c.shared_slice_known-1.given i)) c.in_ok-n.was c.id_twice.ensures c.in-Some-id_twice.is

pub returns-in-None : goal.returns-in-None
returns-in-None c = files_all c.requires c.in_default.is c.follow.ensures c.in_ok-follow.was c.directories.ensures (λ i. omega (arith, c.shared_slice_known-1.given i)) c.in_ok-n.was c.id_twice.ensures c.in-None.is
