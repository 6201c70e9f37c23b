use mathlib.Core.Path.{refl}
use Rattle.elements.specs.Put.{le16}
use Rattle.rules.specs.Render.{r_directory, r_record_in}
use Rattle.makers.specs.MadeLaws.{enclosed, enclosed_onward, front_grows}
use Rattle.writer.proofs.BehindLaws.{put_ends}
use borrow.Author.Rules.{rules}
use Rattle.writer.proofs.make_linear.make_record.Goals as goal

pub returns : goal.returns
unfolding r_directory r_record_in
returns c =
    let put = c.behind.ensures le16 (λ n. refl, λ out o n out' p. search (put_ends, rules)) in
    (enclosed r_directory put (λ x out m out' g. search rules), enclosed_onward r_directory (front_grows 2 le16 (λ n. refl)) put (λ x out m out' g. search rules))
