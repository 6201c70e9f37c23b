use Rattle.std.proofs.Common.{sym, ◌∙◌}
use Rattle.objects.specs.DidLaws.{head_mid, head_high}
use Rattle.templates.proofs.TemplateLaws.{ours_none, ours_some}
use borrow.Author.Rules.{rules}
use Rattle.templates.proofs.template.is_ours.Goals as goal

pub starts-requires : goal.starts-requires
starts-requires c = (head_mid _ _ _ (sym c.in-Ok.is ∙ c.header.ensures), head_high _ _ _ (sym c.in-Ok.is ∙ c.header.ensures) c.requires.0, c.requires.1)

pub returns-in-Ok : goal.returns-in-Ok
returns-in-Ok c = search (ours_some, rules)

pub returns-in-Err : goal.returns-in-Err
returns-in-Err c = search (ours_none, rules)
