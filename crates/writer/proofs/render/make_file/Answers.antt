use Rattle.rules.specs.Render.{r_directory, r_linear}
use Prim.Native.Nat.{◌+◌}
use lib.Seq.{slice}
use Rattle.makers.specs.MadeLaws.{enclosed, next_there}
use Rattle.writer.specs.MakingFiles.{named}
use Rattle.writer.proofs.RenderLaws.{file_directory, file_linear}
use borrow.Author.Rules.{rules}
use Rattle.writer.proofs.render.make_file.Goals as goal

pub fronted-requires-clause-may_make : goal.fronted-requires-clause-may_make
fronted-requires-clause-may_make c = let h = next_there _ _ _ c.is_next.ensures c.if-is_next.true in λ x out e l n. search rules

pub returns-then-is_next : goal.returns-then-is_next
returns-then-is_next c = file_directory _ _ c.is_next.ensures c.if-is_next.true (enclosed (named (slice (c.args.j + 6) c.args.e c.args.b.now) r_directory) c.fronted.ensures (λ x out m out' g. search rules))

pub returns : goal.returns
returns c = file_linear _ _ c.is_next.ensures c.if-is_next.false (enclosed (named (slice (c.args.j + 6) c.args.e c.args.b.now) r_linear) c.fronted-2.ensures (λ x out m out' g. search rules))
