use Rattle.templates.proofs.TemplateLaws.{Starting}
use Rattle.templates.proofs.template.starts.Given as goal

abbrev pub invariant-loop-i : goal.invariant-loop-i
invariant-loop-i l = Starting l.s l.a l.e l.i
