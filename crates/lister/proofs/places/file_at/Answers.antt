use Rattle.std.proofs.Common.{rules, ap, ◌∙◌, subst, ◌+◌, ◌≤◌, length, IfSome, arith}
use Rattle.lister.specs.Records.{Gives}
use Rattle.lister.proofs.FilterLaws.{nth_passed}
use Rattle.lister.proofs.places.file_at.Goals as goal

pub returns : goal.returns
returns c =
    let each = nth_passed Gives _ (λ s. s.bytes.now) (λ b file. file.start + 4 ≤ length b) (λ s x t h. (h.0, omega (arith, h.1.at, h.1.ends.low, h.1.ends.high))) c.filter.result _ c.nth.result c.nth.new.self c.nth.ensures.ran in
    let here = subst (λ b. IfSome c.nth.result (λ file. file.start + 4 ≤ length b)) (ap (λ s. s.bytes.now) c.filter.ensures.source ∙ c.records_of.ensures.0) each in
    search rules
