use Rattle.makers.specs.MadeLaws.{enclosed, onward_behind}
use Rattle.writer.specs.Composed.{inside_template}
use Rattle.writer.proofs.MakeTemplateLaws.{template_made}
use borrow.Author.Rules.{rules}
use Rattle.writer.proofs.make_template.make_template.Goals as goal

pub returns : goal.returns
returns c = let made = enclosed inside_template {b = c.args.b.now} c.within.ensures (λ x out m out' g. search rules) in (template_made c.record_end-next.ensures made, onward_behind c.record_end-next.ensures made)
