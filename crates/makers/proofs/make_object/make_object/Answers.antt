use lib.ListN.{get_or}
use Rattle.rules.specs.Render.{within, r_contents, r_object}
use Rattle.rules.specs.Entries as entries
use Rattle.makers.specs.MadeLaws.{enclosed, from_some, onward_behind}
use borrow.Author.Rules.{rules}
use Rattle.makers.proofs.make_object.make_object.Goals as goal

pub returns : goal.returns
unfolding r_object entries.object
returns c =
    let made = enclosed (r_contents c.byte_at-entry.result c.byte_at-tag.result) {b = c.args.b.now} c.within.ensures (λ x out m out' g. search rules) in
    (from_some (λ k p. within (get_or p 1 0) (r_contents (get_or p 0 0) (get_or p 1 0))) c.record_end-e.ensures (rw (c.byte_at-entry.ensures, c.byte_at-tag.ensures) at made), onward_behind c.record_end-e.ensures made)
