use Rattle.writer.proofs.RenderLaws.{named_long, named_made}
use Rattle.writer.proofs.render.named.Goals as goal

pub returns-then-out-end-clause-makes : goal.returns-then-out-end-clause-makes
returns-then-out-end-clause-makes g c = λ q m. named_long q c.put_path-end.ensures c.if-out-end.true

pub returns-clause-makes : goal.returns-clause-makes
returns-clause-makes g c = λ q m. named_made q c.put_path-end.ensures (m _ _ _ _ c.file.ensures)
