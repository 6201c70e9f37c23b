use Rattle.rules.specs.Render.{r_inside}
use Rattle.makers.specs.MadeLaws.{enclosed, enclosed_onward, wrap_grows, onward_behind}
use Rattle.writer.proofs.MakeEntryLaws.{entry_known, entry_kept}
use borrow.Author.Rules.{rules}
use Rattle.writer.proofs.make_entry.make_entry.Goals as goal

pub returns-then-byte_at-lt2 : goal.returns-then-byte_at-lt2
returns-then-byte_at-lt2 c =
    let made = enclosed r_inside {b = c.args.b.now} c.within.ensures (λ x out m out' g. search rules) in
    (entry_known c.record_end-e.ensures c.byte_at.ensures c.if-byte_at-lt2.true c.byte_at-tag.ensures made, enclosed_onward r_inside (wrap_grows c.byte_at-tag.result) c.within.ensures (λ x out m out' g. search rules))

pub returns : goal.returns
returns c = search (entry_kept, onward_behind, rules)
