use Rattle.elements.specs.AnswerLaws.{leaves}
use native.Mathlib.Omega.{arith}
use Rattle.reader.proofs.StageLaws.{into_long, into_broken, into_behind, into_plain}
use borrow.Author.Rules.{rules}
use Rattle.reader.proofs.dump.read_into.Goals as goal

pub returns-then-s-gt32768 : goal.returns-then-s-gt32768
returns-then-s-gt32768 c = search (into_long, rules)

pub returns-in_err-first : goal.returns-in_err-first
returns-in_err-first c = rw (leaves c.from_residual.ensures) (into_broken _ (search rules) c.has_dir.ensures c.if-has_dir.true c.frame.ensures.0 c.in_err-first.was)

pub read_behind-requires : goal.read_behind-requires
read_behind-requires c = (into_behind _ (λ i. omega (arith, c.shared_slice_known-1.given i)) (search rules) c.has_dir.ensures c.if-has_dir.true c.frame.ensures.0 c.in_ok-first.was c.frame.ensures.1, c.requires)

pub returns : goal.returns
returns c = search (into_plain, rules)
