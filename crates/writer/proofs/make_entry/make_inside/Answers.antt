use Rattle.elements.specs.Length.{wrap}
use Rattle.rules.specs.Render.{gives, r_objects}
use lib.Seq.{slice}
use Rattle.makers.specs.MadeLaws.{enclosed, onward_behind}
use Rattle.writer.proofs.MakeEntryLaws.{inside_path, inside_objects}
use borrow.Author.Rules.{rules}
use Rattle.writer.proofs.make_entry.make_inside.Goals as goal

pub returns-then-byte_at-eq0 : goal.returns-then-byte_at-eq0
returns-then-byte_at-eq0 c =
    let made = enclosed (λ rs. gives (wrap 0x04 (slice c.tail_of-p.result c.args.e c.args.b.now)) rs) {b = c.args.b.now} c.within.ensures (λ x out m out' g. search rules) in
    (inside_path c.requires.0 c.byte_at.ensures c.if-byte_at-eq0.true c.tail_of-p.ensures.1 made, onward_behind c.requires.0 made)

pub returns : goal.returns
returns c =
    let made = enclosed r_objects {b = c.args.b.now} c.within-2.ensures (λ x out m out' g. search rules) in
    (inside_objects c.requires.0 c.byte_at.ensures c.if-byte_at-eq0.false made, onward_behind c.requires.0 made)
