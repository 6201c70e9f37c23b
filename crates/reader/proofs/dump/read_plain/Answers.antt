use Rattle.elements.specs.AnswerLaws.{leaves}
use Rattle.reader.proofs.StageLaws.{heads_framing, heads_from, heads_order, heads_next, plain_broken, plain_read}
use borrow.Author.Rules.{rules}
use Rattle.reader.proofs.dump.read_plain.Goals as goal

pub returns-in_err-heads : goal.returns-in_err-heads
returns-in_err-heads c = rw (leaves c.from_residual.ensures) (plain_broken c.all_framed.ensures _ c.in_err-heads.was)

pub read_parts-requires : goal.read_parts-requires
read_parts-requires c = search (heads_framing, heads_from, heads_order, heads_next, rules)

pub returns : goal.returns
returns c = plain_read c.all_framed.ensures c.in_ok-heads.was c.read_parts.ensures
