use Rattle.elements.specs.AnswerLaws.{leaves}
use Rattle.reader.proofs.StageLaws.{heads_framing, heads_from, heads_order, heads_next, behind_broken, behind_dir, behind_others, behind_room, behind_small, behind_fell, behind_read}
use borrow.Author.Rules.{rules}
use Rattle.reader.proofs.dump.read_behind.Goals as goal

pub returns-in_err-heads : goal.returns-in_err-heads
returns-in_err-heads c = rw (leaves c.from_residual.ensures) (behind_broken c.requires.0 c.all_framed.ensures _ c.in_err-heads.was)

pub read_parts-requires : goal.read_parts-requires
read_parts-requires c = search (heads_framing, heads_from, heads_order, heads_next, rules)

pub returns-in_err-judged : goal.returns-in_err-judged
returns-in_err-judged c = rw (leaves c.from_residual-in_err-judged.ensures) (behind_dir c.requires.0 c.all_framed.ensures c.in_ok-heads.was c.judged.ensures _ c.in_err-judged.was)

pub returns-in_err-n : goal.returns-in_err-n
returns-in_err-n c = rw (leaves c.from_residual-in_err-n.ensures) (behind_others c.requires.0 c.all_framed.ensures c.in_ok-heads.was c.judged.ensures c.in_ok-judged.was c.read_parts.ensures c.in_err-n.was)

pub dir-requires : goal.dir-requires
dir-requires c = (behind_room c.requires.0 c.all_framed.ensures c.in_ok-heads.was c.judged.ensures c.in_ok-judged.was c.read_parts.ensures c.requires.1 c.in_ok-n.was, (c.requires.0.order, c.requires.0.inside, c.requires.0.small, behind_small c.requires.0 c.all_framed.ensures c.in_ok-heads.was c.judged.ensures c.in_ok-judged.was c.read_parts.ensures c.requires.1 c.in_ok-n.was))

pub returns-in_err-at : goal.returns-in_err-at
returns-in_err-at c = rw (leaves c.from_residual-in_err-at.ensures) (behind_fell c.requires.0 c.all_framed.ensures c.in_ok-heads.was c.judged.ensures c.in_ok-judged.was c.read_parts.ensures c.requires.1 c.in_ok-n.was c.dir.ensures c.in_err-at.was)

pub returns : goal.returns
returns c = behind_read c.requires.0 c.all_framed.ensures c.in_ok-heads.was c.judged.ensures c.in_ok-judged.was c.read_parts.ensures c.requires.1 c.in_ok-n.was c.dir.ensures c.in_ok-at.was
