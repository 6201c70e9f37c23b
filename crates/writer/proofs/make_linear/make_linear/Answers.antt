use mathlib.Core.List.{[], ◌∷◌}
use Rattle.rules.specs.Render.{r_all, r_record_in, r_linear}
use Rattle.makers.specs.MadeLaws.{from_none, from_some}
use borrow.Author.Rules.{rules}
use Rattle.writer.proofs.make_linear.make_linear.Goals as goal

pub returns-then-b-made : goal.returns-then-b-made
unfolding r_linear
returns-then-b-made c = search (from_none (λ k p. r_all (0x011a ∷ []) r_record_in), rules)

pub returns : goal.returns
unfolding r_linear
returns c = search (from_some (λ k p. r_all (0x011a ∷ []) r_record_in), rules)
