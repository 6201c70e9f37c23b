use native.Mathlib.Omega.{arith}
use Rattle.links.proofs.rows.is_answer.Goals as goal

pub overflow_add-p : goal.overflow_add-p
overflow_add-p c = record { fits = let h = rw c.in-Some.is at c.requires.0 in omega arith }

pub record_end-requires : goal.record_end-requires
record_end-requires c = rw c.in-Some.is at c.requires.0
