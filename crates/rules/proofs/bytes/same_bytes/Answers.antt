use Rattle.std.specs.Prelude.{ℕ, ◌-◌, List, Bool, ◌≡◌, take, drop, eqb}
use Rattle.std.proofs.Common.{◌∙◌}
use Rattle.std.proofs.Math.Seq.{slice}
use Rattle.std.specs.Cmp.Lexicographic.{pointwise}
use Rattle.elements.specs.Lists.{lent}
use Rattle.rules.specs.Files.{equal}
use Rattle.rules.specs.Compared.{compared}
use Rattle.rules.proofs.bytes.same_bytes.Goals as goal

parts : (s t : List ℕ) (i j k l : ℕ) {r : Bool} → r ≡ pointwise eqb (take (j - i) (drop i s)) (take (l - k) (drop k t)) → r ≡ equal (slice i j s) (slice k l t)
parts s t i j k l e = rw (← lent i j s, ← lent k l t) (e ∙ compared (take (j - i) (drop i s)) (take (l - k) (drop k t)))

pub returns : goal.returns
returns c = parts c.args.s.now c.args.t.now c.args.i c.args.j c.args.k c.args.l c.eq.ensures
