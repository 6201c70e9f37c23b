use mathlib.Core.Path.{refl}
use mathlib.Core.List.{◌++◌}
use Prim.Native.Nat.{◌+◌}
use Rattle.elements.specs.Put.{le16}
use Rattle.elements.specs.PutLaws.{put_put}
use Rattle.writer.proofs.BehindLaws.{put_ends}
use Rattle.rules.specs.Render.{framing}
use Rattle.elements.specs.Record.{record_bytes}
use borrow.Author.Rules.{rules}
use Rattle.writer.proofs.behind.fronted.Goals as goal

pub returns : goal.returns
unfolding framing record_bytes
returns g c = c.behind.ensures (λ n. le16 (n + 2) ++ le16 c.args.kind) (λ n. refl, λ out o n out' p. search (put_ends, put_put, rules))
